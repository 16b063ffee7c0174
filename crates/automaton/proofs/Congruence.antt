-- Tests, lists and folds over the numbers below a bound whose functions agree there, and machines that take the same steps: of one width and one start they are
-- explored alike and have the same table.
use mathlib.Core.Path.{◌≡◌, refl, ap, ◌∙◌}
use mathlib.Core.Bool.{Bool, cond}
use mathlib.Core.List.{List, [], ◌∷◌, ◌++◌, map}
use Prim.Native.Nat.{ℕ, zero, suc, ◌<◌}
use native.Mathlib.Omega.{arith}
use lib.Dec.{ltb}
use lib.ListN.{length, get_or}
use Rattle.automaton.specs.Below.{all_below, list_below, fold_below}
use Rattle.automaton.specs.Machine.{Machine, step}
use Rattle.automaton.specs.Explore.{Reached, number_in, add, visit, unreached, explore, start_of, reached}
use Rattle.automaton.specs.Table.{row_at, table}

pub all-below-same : (f g : ℕ → Bool) (n : ℕ) → ((k : ℕ) → k < n → f k ≡ g k) → all_below n f ≡ all_below n g
all-below-same f g zero h = refl
all-below-same f g (suc n) h = rw (all-below-same f g n (λ k l. h k (omega arith)), h n (omega arith))

pub list-below-same : {A : Type 0} (f g : ℕ → A) (n : ℕ) → ((k : ℕ) → k < n → f k ≡ g k) → list_below n f ≡ list_below n g
list-below-same f g zero h = refl
list-below-same {A} f g (suc n) h =
    ap (λ (l : List A). l ++ (f n ∷ [])) (list-below-same f g n (λ k l. h k (omega arith))) ∙ ap (λ (x : A). list_below n g ++ (x ∷ [])) (h n (omega arith))

pub fold_below-same : {A : Type 0} (f g : ℕ → A → A) (a : A) (n : ℕ) → ((k : ℕ) (x : A) → k < n → f k x ≡ g k x) → fold_below n a f ≡ fold_below n a g
fold_below-same f g a zero h = refl
fold_below-same f g a (suc n) h = ap (f n) (fold_below-same f g a n (λ k x l. h k x (omega arith))) ∙ h n (fold_below n a g) (omega arith)

pub map_same : {A B : Type 0} (f g : A → B) → ((x : A) → f x ≡ g x) → (l : List A) → map f l ≡ map g l
map_same f g h [] = refl
map_same f g h (x ∷ l) = let head = h x in let tail = map_same f g h l in cc

module _ (A B : Machine) (steps : (s c : ℕ) → step A s c ≡ step B s c) where
  pub visit-same : (t : Reached) (k : ℕ) (found : List Reached) → visit A t k found ≡ visit B t k found
  visit-same t zero found = refl
  visit-same t (suc c) found =
      let h = t.history ++ (c ∷ []) in
      ap (λ (l : List Reached). add l (step A t.state c) h) (visit-same t c found) ∙ ap (λ (s : ℕ). add (visit B t c found) s h) (steps t.state c)

module _ (A B : Machine) (widths : A.width ≡ B.width) (starts : A.start ≡ B.start)
    (steps : (s c : ℕ) → step A s c ≡ step B s c) where
  explore-same : (fuel i : ℕ) (found : List Reached) → explore A fuel i found ≡ explore B fuel i found
  explore-same zero i found = refl
  explore-same (suc fuel) i found =
      ap (λ (more : List Reached). cond (ltb i (length found)) more found)
      (explore-same fuel (suc i) (visit A (get_or found i unreached) A.width found)
      ∙ ap (λ (l : List Reached). explore B fuel (suc i) l)
      (visit-same A B steps (get_or found i unreached) A.width found ∙ ap (λ (k : ℕ). visit B (get_or found i unreached) k found) widths))

  pub reached-same : (most : ℕ) → reached A most ≡ reached B most
  reached-same most =
      explore-same most 0 (start_of A) ∙ ap (λ (s : ℕ). explore B most 0 (record { state = s; history = [] } ∷ [])) starts

  pub table_same : (found : List Reached) → table A found ≡ table B found
  table_same found = map_same (row_at A found) (row_at B found) row found
    where
      row : (t : Reached) → row_at A found t ≡ row_at B found t
      row t =
          list-below-same (λ c. number_in found (step A t.state c)) (λ c. number_in found (step B t.state c)) A.width
          (λ c l. ap (number_in found) (steps t.state c))
          ∙ ap (λ (n : ℕ). list_below n (λ c. number_in found (step B t.state c))) widths
