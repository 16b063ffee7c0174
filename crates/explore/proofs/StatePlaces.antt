-- A search for a number in a list by the library's `position`, and numbers that count from 1 as options.
use mathlib.Core.Path.{◌≡◌, refl, sym, subst, ◌∙◌}
use mathlib.Core.Bool.{Bool, true, false, cond}
use mathlib.Core.List.{List, [], ◌∷◌}
use Prim.Native.Nat.{ℕ, zero, suc, ◌+◌, ◌<◌}
use native.Mathlib.Omega.{arith}
use native.Mathlib.Decide.{ℕ_discrete}
use borrow.Author.Tests.{eq-eqb, ne_eqb}
use lib.Dec.{eqb}
use Rattle.std.specs.Prelude.{Option, None, Some, unwrap_or}
use Rattle.std.specs.List.{position, position_from}
use Rattle.std.proofs.lemmas.Iterator.Adapters.{position_from-zero}
use Rattle.std.proofs.lemmas.List.Quantifiers.{position-Some}
use lib.ListN.{length}
use Rattle.automaton.specs.Below.{suc_positive, place_of}
use Rattle.explore.specs.Reaches.{positive}

-- ---- a number and its option
pub some-positive : (r n : ℕ) → 0 < r → r ≡ n → Some r ≡ positive n
some-positive zero n p e = absurd (omega arith)
some-positive (suc k) n p e = rw (← e)

pub none-positive : (n : ℕ) → 0 ≡ n → None ≡ positive n
none-positive n e = rw (← e)

pub positive-some : (r n : ℕ) → Some r ≡ positive n → (0 < r) × (r ≡ n)
positive-some r zero e = absurd cc
positive-some r (suc n) e = let is : r ≡ suc n = cc in (omega arith, is)

pub positive-none : (n : ℕ) → None ≡ positive n → n ≡ 0
positive-none zero e = refl
positive-none (suc n) e = absurd cc

pub unwrap-positive : (n : ℕ) → unwrap_or (positive n) 0 ≡ n
unwrap-positive zero = refl
unwrap-positive (suc n) = refl

-- ---- the place of a number, counted from 1, from its index
module _ (x : ℕ) where
  abbrev pub is_x : ℕ → Bool
  is_x y = eqb y x

  same-test : (y : ℕ) → eqb y x ≡ eqb x y
  same-test y = go (ℕ_discrete y x)
    where
      go : Dec (y ≡ x) → eqb y x ≡ eqb x y
      go (yes e) = eq-eqb y x e ∙ sym (eq-eqb x y (sym e))
      go (no e) = ne_eqb y x e ∙ sym (ne_eqb x y (λ q. e (sym q)))

  -- where the index is counted from i
  abbrev After : ℕ → ℕ → Option ℕ → Type 0
  After i place None = place ≡ 0
  After i place (Some index) = (0 < place) × (index + 1 ≡ i + place)

  later : (i place : ℕ) (index : Option ℕ) → After (i + 1) place index → After i (suc_positive place) index
  later i place None e = rw e
  later i zero (Some index) e = absurd (omega arith)
  later i (suc k) (Some index) e = (omega arith, omega arith)

  after-place : (i : ℕ) (l : List ℕ) → After i (place_of (eqb x) l) (position_from is_x i l)
  after-place i [] = refl
  after-place i (y ∷ l) = rw same-test (go (eqb x y) (later i (place_of (eqb x) l) (position_from is_x (i + 1) l) (after-place (i + 1) l)))
    where
      go : (b : Bool) → After i (suc_positive (place_of (eqb x) l)) (position_from is_x (i + 1) l)
          → After i (cond b 1 (suc_positive (place_of (eqb x) l))) (cond b (Some i) (position_from is_x (i + 1) l))
      go true _ = (omega arith, refl)
      go false more = more

  at : (l : List ℕ) (index : Option ℕ) → position is_x l ≡ index → After 0 (place_of (eqb x) l) index
  at l index e = subst (After 0 (place_of (eqb x) l)) (sym (position_from-zero is_x l) ∙ e) (after-place 0 l)

  pub index-within : (l : List ℕ) (index : ℕ) → position is_x l ≡ Some index → index < length l
  index-within l index e = (position-Some is_x l index 0 e).0

  pub place_here : (l : List ℕ) (index : ℕ) → position is_x l ≡ Some index → Some (index + 1) ≡ positive (place_of (eqb x) l)
  place_here l index e = let a = at l (Some index) e in some-positive (index + 1) (place_of (eqb x) l) (omega arith) (omega (arith, a.1))

  pub place-nowhere : (l : List ℕ) → position is_x l ≡ None → None ≡ positive (place_of (eqb x) l)
  place-nowhere l e = none-positive (place_of (eqb x) l) (sym (at l None e))
