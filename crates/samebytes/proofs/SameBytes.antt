-- Two strings of one length that are read from the front: equal where no place is left, and not where a part differs.
use mathlib.Core.Bool.{true, false}
use mathlib.Core.List.{List}
use mathlib.Core.Path.{◌≡◌, ap}
use Prim.Native.Nat.{ℕ, ◌+◌, ◌≤◌}
use native.Mathlib.Nat.{zero-add}
use native.Mathlib.Omega.{arith}
use lib.ListN.{length, get_or}
use lib.Seq.{ext_get_or}
use Rattle.automaton.specs.Below.{same_list}
use Rattle.bytewords.specs.ByteWords.{SamePart}
use Rattle.automaton.proofs.Below.{same-list-yes, same-list_no}
use Rattle.bytewords.proofs.ByteWords.{parts-joined}
use Rattle.samebytes.specs.SameBytes.{SameSoFar}

module _ (xs ys : List ℕ) where
  pub nothing_read : length xs ≡ length ys → SameSoFar xs ys 0
  nothing_read l = record { lengths = l; within = omega arith; front = λ i b. absurd (omega arith) }

  -- a part more
  pub more_read : (k n : ℕ) → SameSoFar xs ys k → k + n ≤ length xs → SamePart n xs k ys k → SameSoFar xs ys (k + n)
  more_read k n S l same =
      record { lengths = S.lengths; within = l; front = parts-joined xs ys 0 0 k n S.front (rw zero-add same) }

  pub part_differs : (n k : ℕ) → (SamePart n xs k ys k → ⊥) → false ≡ same_list xs ys
  part_differs n k differ = same-list_no xs ys (λ e. differ (λ i b. ap (λ (l : List ℕ). get_or l (k + i) 0) e))

  pub all_read : (k : ℕ) → SameSoFar xs ys k → length xs ≤ k → true ≡ same_list xs ys
  all_read k S end = same-list-yes xs ys (ext_get_or 0 xs ys S.lengths (λ i b. rw zero-add at (S.front i (omega (arith, S.within)))))
