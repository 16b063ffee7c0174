-- `number` meets its contract: the states passed so far have their numbers.
use Rattle.std.proofs.Common.{arith}
use Rattle.join.proofs.Numbers.{numbering-count, numbering-class, numbering-turn, numbering-done}
use Rattle.join.proofs.number.Goals as goal

pub number_state-count-requires : goal.number_state-count-requires
number_state-count-requires c =
    let l = c.loop-s in
    let low = c.requires.0.low l.s (omega (arith, l.invariant.long)) in
    let count = numbering-count c.requires.0 l.invariant in
    let class = numbering-class c.requires.0 l.invariant in
    (omega arith, omega (arith, c.requires), omega arith, omega (arith, c.requires), omega (arith, c.requires))

pub loop-s-preserved : goal.loop-s-preserved
loop-s-preserved c =
    let l = c.loop-s in
    let n = c.number_state-count.ensures in
    numbering-turn c.requires.0 l.invariant (omega (arith, l.invariant.long)) (omega (arith, c.requires, l.auto)) n.value n.numbers_after n.order_after

pub returns-clause-numbers_after : goal.returns-clause-numbers_after
returns-clause-numbers_after c = (numbering-done c.requires.0 c.loop-s.invariant (omega arith)).2
