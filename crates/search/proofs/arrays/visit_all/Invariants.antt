use mathlib.Core.Path.{◌≡◌}
use Prim.Native.Nat.{◌-◌}
use lib.ListN.{length}
use Rattle.search.specs.Found.{found_in, Arrays}
use Rattle.search.proofs.SearchTurns.{SearchTurnIn}
use Rattle.search.proofs.arrays.visit_all.Given as goal

abbrev pub invariant-loop-i : goal.invariant-loop-i
invariant-loop-i l =
    SearchTurnIn l.rows l.width l.i l.n l.order l.trail
    × Arrays (found_in l.n l.order l.trail) l.n l.order l.trail l.numbers
    × (length l.order ≡ length l.initial.order) × (length l.trail ≡ length l.initial.trail) × (length l.numbers ≡ length l.initial.numbers)

abbrev pub decreases-loop-i : goal.decreases-loop-i
decreases-loop-i l = 128 - l.i
