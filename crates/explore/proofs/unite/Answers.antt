-- `unite` meets its contract: the sets passed so far are united.
use Rattle.automaton.proofs.FilledList.{filled_next, filled_turn}
use lib.ListN.{length, get_or}
use Rattle.definitions.specs.Situation.{union}
use native.Mathlib.Omega.{arith}
use Prim.Native.Nat.{ℕ, ◌<◌}
use mathlib.Core.Path.{ap, ◌∙◌}
use Rattle.explore.proofs.unite.Goals as goal

pub loop-c-preserved : goal.loop-c-preserved
loop-c-preserved c =
    let l = c.loop-c in
    let a = c.args in
    let room : l.c < length a.next.now = omega (arith, l.invariant.long) in
    filled_turn l.invariant room (c.plus-united.ensures ∙ ap (λ (old : ℕ). union old (get_or a.more.now l.c 0)) (filled_next l.invariant room))
