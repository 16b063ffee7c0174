-- The rows of a comparison judged in order: the number of the lowest that refuses the call, and what holds of books that none refuses.
use mathlib.Core.Path.{◌≡◌}
use mathlib.Core.Bool.{Bool, true, false}
use mathlib.Core.List.{List}
use Prim.Native.Nat.{ℕ, ◌≤◌, ◌<◌}
use native.Mathlib.Omega.{arith}
use lib.Dec.{leb}
use lib.ListN.{length}
use borrow.Author.Tests.{le-leb, lt-leb, leb-true, ne_eqb}
use Rattle.automaton.specs.Below.{same_list}
use Rattle.definitions.specs.Answer.{then_judge}
use Rattle.definitions.specs.Book.{frame}
use Rattle.definitions.specs.Refusal.{book_refusal, row15}
use Rattle.definitions.specs.Compare.{compare_refusal}
use Rattle.definitions.proofs.Tests.{judge-zero, then_judge-zero}

-- ---- the rows
module _ (b d buffer : List ℕ) where
  pub too_short : length buffer < 256 → 1 ≡ compare_refusal b d buffer
  unfolding compare_refusal
  too_short l = rw (lt-leb 256 (length buffer) l)

  module _ (long : 256 ≤ length buffer) where
    pub by_first : (x : ℕ) → x ≡ book_refusal b → 1 ≤ x → x ≡ compare_refusal b d buffer
    unfolding compare_refusal
    by_first x ex some = rw (le-leb 256 (length buffer) long, ← ex, ne_eqb x 0 (λ e. omega arith))

    module _ (passes : 0 ≡ book_refusal b) where
      pub by-second : (y : ℕ) → y ≡ book_refusal d → 1 ≤ y → y ≡ compare_refusal b d buffer
      unfolding compare_refusal
      by-second y ey some = rw (le-leb 256 (length buffer) long, ← passes, ← ey, ne_eqb y 0 (λ e. omega arith))

      module _ (passes' : 0 ≡ book_refusal d) (t : Bool) (et : t ≡ same_list (frame b) (frame d)) where
        pub by-frame : t ≡ false → 15 ≡ compare_refusal b d buffer
        unfolding compare_refusal row15
        by-frame e = rw (le-leb 256 (length buffer) long, ← passes, ← passes', ← et, e)

        pub by-none : t ≡ true → 0 ≡ compare_refusal b d buffer
        unfolding compare_refusal row15
        by-none e = rw (le-leb 256 (length buffer) long, ← passes, ← passes', ← et, e)

-- no row refuses the call
pub record ComparePassed (b d buffer : List ℕ) : Type 0 where
  pub long : 256 ≤ length buffer
  pub first : book_refusal b ≡ 0
  pub second : book_refusal d ≡ 0
  pub frames : same_list (frame b) (frame d) ≡ true

pub compare_passed : (b d buffer : List ℕ) → compare_refusal b d buffer ≡ 0 → ComparePassed b d buffer
unfolding compare_refusal row15
compare_passed b d buffer e =
    let room = (judge-zero 0 (leb 256 (length buffer)) (then_judge (book_refusal b) (then_judge (book_refusal d) (row15 b d)))).0 e in
    let first = (then_judge-zero (book_refusal b) (then_judge (book_refusal d) (row15 b d))).0 room.1 in
    let second = (then_judge-zero (book_refusal d) (row15 b d)).0 first.1 in
    record {
      long = leb-true 256 (length buffer) room.0;
      first = first.0;
      second = second.0;
      frames = ((judge-zero 14 (same_list (frame b) (frame d)) 0).0 second.1).0;
    }
