-- The answer of a call and the buffer after it, by the number of the row that refuses the call: a number that is not 0 is the whole answer and leaves the
-- buffer; 0 gives the value and writes it. No buffer is shorter afterwards.
use mathlib.Core.Path.{◌≡◌, refl}
use mathlib.Core.Bool.{Bool, true, false, cond}
use mathlib.Core.List.{List}
use Prim.Native.Nat.{ℕ, zero, suc, ◌≤◌}
use native.Mathlib.Nat.{le_refl}
use native.Mathlib.Omega.{arith}
use lib.Dec.{eqb}
use lib.ListN.{length, length-append, length-drop}
use borrow.Author.Tests.{eq-eqb, ne_eqb}
use Rattle.definitions.specs.Answer.{answer, refused, given, written, after_call}

module _ {A : Type 0} (number : ℕ) where
  pub refused_answer : (number ≡ 0 → ⊥) → (value : A) → refused number ≡ answer number value
  refused_answer n value = go number n
    where
      go : (k : ℕ) → (k ≡ 0 → ⊥) → refused k ≡ answer k value
      go zero n = absurd (n refl)
      go (suc k) n = refl

  pub given-answer : number ≡ 0 → (value : A) → given value ≡ answer number value
  given-answer e value = rw e

  -- a value is given only where no row refuses the call
  pub answer-given : (a value : A) → given a ≡ answer number value → (number ≡ 0) × (a ≡ value)
  answer-given a value = go number
    where
      go : (k : ℕ) → given a ≡ answer k value → (k ≡ 0) × (a ≡ value)
      go zero e = (refl, cc)
      go (suc k) e = let z : ◌≡◌ {A = ℕ} 0 1 = cc in absurd (omega arith)

module _ (number : ℕ) (front buffer : List ℕ) where
  pub refused_buffer : (number ≡ 0 → ⊥) → buffer ≡ after_call number front buffer
  refused_buffer n = rw (ne_eqb number 0 n)

  pub given-buffer : number ≡ 0 → after_call number front buffer ≡ written front buffer
  given-buffer e = rw (eq-eqb number 0 e)

  pub no_shorter : length buffer ≤ length (after_call number front buffer)
  no_shorter = go (eqb number 0)
    where
      go : (passes : Bool) → length buffer ≤ length (cond passes (written front buffer) buffer)
      go true = rw (length-append, length-drop) (omega arith)
      go false = le_refl (length buffer)
