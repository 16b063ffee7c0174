use mathlib.Core.Path.{◌≡◌}
use lib.ListN.{length}
use Rattle.search.specs.Found.{found_in, Arrays}
use Rattle.search.proofs.SearchTurns.{TriedIn}
use Rattle.search.proofs.arrays.visit.Given as goal

abbrev pub invariant-loop-code : goal.invariant-loop-code
invariant-loop-code l =
    TriedIn l.rows l.width l.initial.order l.initial.trail l.n l.i l.code l.k l.order l.trail
    × Arrays (found_in l.k l.order l.trail) l.k l.order l.trail l.numbers
    × (length l.order ≡ length l.initial.order) × (length l.trail ≡ length l.initial.trail) × (length l.numbers ≡ length l.initial.numbers)
