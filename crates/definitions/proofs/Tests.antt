-- What the tests of the byte formats mean, when rows that are judged in order refuse nothing, and when the last of them refuses.
use mathlib.Core.Path.{◌≡◌, refl, sym, ◌∙◌}
use mathlib.Core.Bool.{Bool, true, false, true≢false, false≢true, ◌&&◌}
use mathlib.Core.Logic.{◌↔◌}
use mathlib.Core.List.{List}
use Prim.Native.Nat.{ℕ, zero, suc, ◌≤◌, ◌<◌}
use native.Mathlib.Omega.{arith}
use lib.Dec.{leb, eqb, eqb-suc-zero}
use borrow.Author.Tests.{leb-true, eqb-true, le-leb, eq-eqb}
use Rattle.automaton.proofs.Below.{and-true}
use Rattle.definitions.specs.Answer.{judge, then_judge}
use Rattle.definitions.specs.Bytes.{byte, has_mark, version, within}

pub both_true : {a b : Bool} → a ≡ true → b ≡ true → (a && b) ≡ true
both_true p q = rw p q

-- `if !test(..)`: the test t, whose answer was r
pub held : (r t : Bool) → r ≡ t → r ≡ true → t ≡ true
held r t e n = sym e ∙ n

pub failed : (r t : Bool) → r ≡ t → r ≡ false → t ≡ false
failed r t e n = sym e ∙ n

-- no row fits where the first does not and no later one does
pub judge-zero : (number : ℕ) (passes : Bool) (later : ℕ) → (judge (suc number) passes later ≡ 0) ↔ ((passes ≡ true) × (later ≡ 0))
judge-zero number true later = (λ e. (refl, e), λ h. h.1)
judge-zero number false later = (λ e. absurd (omega arith), λ h. absurd (false≢true h.0))

-- the last row fits where its test fails
pub judge-last : (number : ℕ) (passes : Bool) → (judge (suc number) passes 0 ≡ suc number) ↔ (passes ≡ false)
judge-last number true = (λ e. absurd (omega arith), λ e. absurd (true≢false e))
judge-last number false = (λ e. refl, λ e. refl)

pub then_judge-zero : (first later : ℕ) → (then_judge first later ≡ 0) ↔ ((first ≡ 0) × (later ≡ 0))
then_judge-zero zero later = (λ e. (refl, e), λ h. h.1)
then_judge-zero (suc n) later = (λ e. never (rw (eqb-suc-zero n) at e), λ h. absurd (omega arith))
  where
    never : suc n ≡ 0 → (suc n ≡ 0) × (later ≡ 0)
    never e = absurd (omega arith)

-- where nothing comes after it, the first decides
pub then_judge-last : (first : ℕ) → then_judge first 0 ≡ first
then_judge-last zero = refl
then_judge-last (suc n) = rw (eqb-suc-zero n)

pub within-true : (low x high : ℕ) → (within low x high ≡ true) ↔ ((low ≤ x) × (x ≤ high))
within-true low x high = (into, λ h. both_true (le-leb low x h.0) (le-leb x high h.1))
  where
    into : within low x high ≡ true → (low ≤ x) × (x ≤ high)
    into e = let both = and-true (leb low x) (leb x high) e in (leb-true low x both.0, leb-true x high both.1)

module _ (bytes : List ℕ) where
  pub mark-true : (x y z : ℕ) → (has_mark x y z bytes ≡ true) ↔ ((byte bytes 0 ≡ x) × (byte bytes 1 ≡ y) × (byte bytes 2 ≡ z))
  mark-true x y z =
      (into, λ h. both_true (both_true (eq-eqb (byte bytes 0) x h.0) (eq-eqb (byte bytes 1) y h.1)) (eq-eqb (byte bytes 2) z h.2))
    where
      into : has_mark x y z bytes ≡ true → (byte bytes 0 ≡ x) × (byte bytes 1 ≡ y) × (byte bytes 2 ≡ z)
      into e =
          let two = and-true (eqb (byte bytes 0) x && eqb (byte bytes 1) y) (eqb (byte bytes 2) z) e in
          let one = and-true (eqb (byte bytes 0) x) (eqb (byte bytes 1) y) two.0 in
          (eqb-true (byte bytes 0) x one.0, eqb-true (byte bytes 1) y one.1, eqb-true (byte bytes 2) z two.1)

  -- a version below 256
  pub version-true : (n : ℕ) → n < 256 → (eqb (version bytes) n ≡ true) ↔ ((byte bytes 3 ≡ 0) × (byte bytes 4 ≡ n))
  version-true n l = (into, λ h. eq-eqb (version bytes) n (omega arith))
    where
      into : eqb (version bytes) n ≡ true → (byte bytes 3 ≡ 0) × (byte bytes 4 ≡ n)
      into e = let is = eqb-true (version bytes) n e in (omega arith, omega arith)
