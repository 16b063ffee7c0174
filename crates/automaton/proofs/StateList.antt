-- The states of a search as numbers: which of them are found, and with what numbers, does not depend on the histories.
use mathlib.Core.Path.{◌≡◌, refl, sym, ap, ◌∙◌}
use mathlib.Core.Bool.{Bool, cond, true, false≢true}
use mathlib.Core.List.{List, [], ◌∷◌, ◌++◌, map, map-map, map-append, map-id}
use Prim.Native.Nat.{ℕ, zero, suc, ◌<◌, ◌≤◌, max}
use native.Mathlib.Omega.{arith}
use lib.Dec.{eqb}
use lib.ListN.{length, get_or, length-append, length-map}
use borrow.Author.Tests.{eq-eqb}
use Rattle.automaton.specs.Below.{suc_positive, place_of}
use Rattle.automaton.specs.History.{History}
use Rattle.automaton.specs.Machine.{Machine, step, is_state}
use Rattle.automaton.specs.Explore.{Reached, is_at, number_in, add, visit, unreached}
use Rattle.automaton.proofs.Below.{place-hit, place_end}
use Rattle.automaton.proofs.WellFormed.{get_or-map-within}
use Rattle.automaton.proofs.Explore.{state_at, front_length}
use Rattle.automaton.proofs.RemainingSearch.{visit_grows}
use Rattle.automaton.specs.StateList.{state_of, state_list, bare, number_among, add_state, after_codes}

pub states-bare : (l : List ℕ) → state_list (map bare l) ≡ l
states-bare l = map-map state_of bare l ∙ map-id l

pub length-states : (found : List Reached) → length (state_list found) ≡ length found
length-states found = length-map found state_of

pub state_at_law : (found : List Reached) (k : ℕ) → k < length found → get_or (state_list found) k 0 ≡ state_at found k
state_at_law found k l = get_or-map-within state_of found k unreached 0 l

place_map : {A B : Type 0} (f : B → Bool) (g : A → B) (xs : List A) → place_of f (map g xs) ≡ place_of (λ x. f (g x)) xs
place_map f g [] = refl
place_map f g (x ∷ xs) = ap (λ (n : ℕ). cond (f (g x)) 1 (suc_positive n)) (place_map f g xs)

-- a number is a place among the states
pub number-place : (l : List ℕ) (s : ℕ) → is_state s ≡ true → number_among l s ≡ place_of (eqb s) l
number-place l zero p = absurd (false≢true p)
number-place l (suc s) p = place_map (is_at (suc s)) bare l

pub number-states : (found : List Reached) (s : ℕ) → number_among (state_list found) s ≡ number_in found s
number-states found zero = refl
number-states found (suc s) = number-place (state_list found) (suc s) refl ∙ place_map (eqb (suc s)) state_of found

pub number-none : (s : ℕ) → number_among [] s ≡ 0
number-none zero = refl
number-none (suc s) = refl

number-cases : (l : List ℕ) (s n : ℕ) → number_among l s ≡ n → n ≤ length l
number-cases l s zero e = omega arith
number-cases l zero (suc k) e = absurd (omega arith)
number-cases l (suc s) (suc k) e = (place-hit (eqb (suc s)) 0 l k (sym (number-place l (suc s) refl) ∙ e)).0

pub number-low : (l : List ℕ) (s : ℕ) → number_among l s ≤ length l
number-low l s = number-cases l s (number_among l s) refl

-- ---- a state is put in
module _ (l : List ℕ) where
  pub added_none : add_state l 0 ≡ l
  added_none = states-bare l

  pub added_known : (s : ℕ) → is_state (number_among l s) ≡ true → add_state l s ≡ l
  added_known zero e = added_none
  added_known (suc s) e = rw e (states-bare l)

  pub added_new : (s : ℕ) → is_state s ≡ true → number_among l s ≡ 0 → add_state l s ≡ l ++ (s ∷ [])
  added_new zero p e = absurd (false≢true p)
  added_new (suc s) p e = rw e (map-append state_of (map bare l) (bare (suc s) ∷ []) ∙ ap (λ (x : List ℕ). x ++ (suc s ∷ [])) (states-bare l))

  pub number_new : (s : ℕ) → is_state s ≡ true → number_among l s ≡ 0 → number_among (l ++ (s ∷ [])) s ≡ suc (length l)
  number_new s p e =
      number-place (l ++ (s ∷ [])) s p ∙ place_end (eqb s) l s (sym (number-place l s p) ∙ e) (eq-eqb s s refl)

  -- what holds of the list as it is, where s is 0 or known, and with s at its end, where s is new, holds of the list with s put in
  pub added_cases : (P : List ℕ → Type 0) (s : ℕ) → (s ≡ 0 → P l) → ((k : ℕ) → number_among l s ≡ suc k → P l)
      → (is_state s ≡ true → number_among l s ≡ 0 → P (l ++ (s ∷ []))) → P (add_state l s)
  added_cases P zero none known new = rw added_none (none refl)
  added_cases P (suc s) none known new = go (number_among l (suc s)) refl
    where
      go : (n : ℕ) → number_among l (suc s) ≡ n → P (add_state l (suc s))
      go zero e = rw (added_new (suc s) refl e) (new refl e)
      go (suc k) e = rw (added_known (suc s) (ap is_state e)) (known k e)

  -- the number of a state that was put in says how many there are then
  pub added_length : (s : ℕ) → length (add_state l s) ≡ max (length l) (number_among (add_state l s) s)
  added_length s = added_cases (λ more. length more ≡ max (length l) (number_among more s)) s
      (λ e. rw e (omega arith))
      (λ k e. omega (arith, number-low l s))
      (λ p e. rw (length-append, number_new s p e) (omega arith))

  pub added_few : (s : ℕ) → length (add_state l s) ≤ suc (length l)
  added_few s = added_cases (λ more. length more ≤ suc (length l)) s (λ e. omega arith) (λ k e. omega arith) (λ p e. rw length-append (omega arith))

-- ---- the histories do not matter
add-states : (found : List Reached) (s : ℕ) (h : History) → state_list (add found s h) ≡ add_state (state_list found) s
add-states found zero h = sym (added_none (state_list found))
add-states found (suc s) h = go (number_in found (suc s)) refl
  where
    go : (n : ℕ) → number_in found (suc s) ≡ n
        → state_list (cond (is_state n) found (found ++ (record { state = suc s; history = h } ∷ []))) ≡ add_state (state_list found) (suc s)
    go zero e = map-append state_of found (record { state = suc s; history = h } ∷ []) ∙ sym (added_new (state_list found) (suc s) refl (number-states found (suc s) ∙ e))
    go (suc k) e = sym (added_known (state_list found) (suc s) (ap is_state (number-states found (suc s) ∙ e)))

module _ (m : Machine) where
  pub after_more : (s c : ℕ) (l : List ℕ) → after_codes m s (suc c) l ≡ add_state (after_codes m s c l) (step m s c)
  after_more s c l = add-states (visit m (bare s) c (map bare l)) (step m s c) ([] ++ (c ∷ []))

  pub visit-states : (t : Reached) (k : ℕ) (found : List Reached) → state_list (visit m t k found) ≡ after_codes m t.state k (state_list found)
  visit-states t zero found = sym (states-bare (state_list found))
  visit-states t (suc c) found =
      add-states (visit m t c found) (step m t.state c) (t.history ++ (c ∷ []))
      ∙ ap (λ (l : List ℕ). add_state l (step m t.state c)) (visit-states t c found)
      ∙ sym (after_more t.state c (state_list found))

  pub after_grows : (s : ℕ) (l : List ℕ) (c k : ℕ) → c ≤ k → length (after_codes m s c l) ≤ length (after_codes m s k l)
  after_grows s l c k b =
      let f = front_length (visit_grows m (bare s) (map bare l) c k b) in
      omega (arith, length-states (visit m (bare s) c (map bare l)), length-states (visit m (bare s) k (map bare l)))
