-- `relabel` meets its contract: the labels passed so far are moved, the others are as they were.
use native.Mathlib.Omega.{arith}
use mathlib.Core.Path.{ap, ◌∙◌}
use Rattle.comparelabels.specs.LabelBytes.{moved}
use Rattle.automaton.proofs.FilledList.{filled_next, filled_turn, filled_done, map_below}
use Rattle.comparelabels.proofs.label_bytes.relabel.Goals as goal

pub loop-l-preserved : goal.loop-l-preserved
loop-l-preserved c =
    let S = c.loop-l.invariant in
    let a = c.args in
    filled_turn S (omega arith) (c.moved.ensures ∙ ap (moved a.from a.to) (filled_next S (omega arith)))

pub returns : goal.returns
returns c =
    let a = c.args in
    filled_done c.loop-l.invariant (omega arith) ∙ map_below (moved a.from a.to) a.label.now
