-- A state keeps its number once it is found, and the row of a state is known once its codes have been tried.
use mathlib.Core.Path.{◌≡◌, refl, sym, ap, ◌∙◌}
use mathlib.Core.Bool.{cond, true, false≢true}
use mathlib.Core.Logic.{◌⊎◌, inl, inr}
use mathlib.Core.List.{List, [], ◌∷◌, ◌++◌}
use Prim.Native.Nat.{ℕ, zero, suc, ◌<◌}
use native.Mathlib.Omega.{arith}
use borrow.Author.Tests.{eq-eqb}
use Rattle.automaton.specs.History.{History}
use Rattle.automaton.specs.Machine.{Machine, step, is_state}
use Rattle.automaton.specs.Explore.{Reached, is_at, number_in, add, visit}
use Rattle.automaton.specs.Table.{row_of}
use Rattle.automaton.proofs.Below.{below_suc, place_append, place_end}
use Rattle.automaton.proofs.Explore.{Front, add-front}
use Rattle.automaton.proofs.Congruence.{list-below-same}

-- ---- a state keeps its number
-- a state that was found has the same number in a list that grew at its end
number-stays : {found more : List Reached} → Front found more → (s : ℕ) → is_state (number_in found s) ≡ true → number_in more s ≡ number_in found s
number-stays f zero p = refl
number-stays {found} {more} f (suc s) p = go (number_in found (suc s)) refl p
  where
    go : (n : ℕ) → number_in found (suc s) ≡ n → is_state n ≡ true → number_in more (suc s) ≡ number_in found (suc s)
    go zero e p = absurd (false≢true p)
    go (suc k) e p = ap (λ (l : List Reached). number_in l (suc s)) f.whole ∙ place_append (is_at (suc s)) found f.rest k e ∙ sym e

add-numbered : (found : List Reached) (s : ℕ) (h : History) → is_state s ≡ true → is_state (number_in (add found s h) s) ≡ true
add-numbered found zero h p = absurd (false≢true p)
add-numbered found (suc s) h p = go (number_in found (suc s)) refl
  where
    t : Reached
    t = record { state = suc s; history = h }

    go : (n : ℕ) → number_in found (suc s) ≡ n → is_state (number_in (cond (is_state n) found (found ++ (t ∷ []))) (suc s)) ≡ true
    go zero e = ap is_state (place_end (is_at (suc s)) found t e (eq-eqb (suc s) (suc s) refl))
    go (suc k) e = ap is_state e

module _ (m : Machine) (t : Reached) (found : List Reached) where
  -- the state that a code leads to is numbered once the code has been tried
  visit-numbered : (c k : ℕ) → c < k → is_state (step m t.state c) ≡ true → is_state (number_in (visit m t k found) (step m t.state c)) ≡ true
  visit-numbered c zero l p = absurd (omega arith)
  visit-numbered c (suc k) l p = go (below_suc c k l) (visit-numbered c k)
    where
      s : ℕ
      s = step m t.state k

      h : History
      h = t.history ++ (k ∷ [])

      go : (c < k) ⊎ (c ≡ k) → (c < k → is_state (step m t.state c) ≡ true → is_state (number_in (visit m t k found) (step m t.state c)) ≡ true)
          → is_state (number_in (add (visit m t k found) s h) (step m t.state c)) ≡ true
      go (inl b) ih = ap is_state (number-stays (add-front (visit m t k found) s h) (step m t.state c) (ih b p)) ∙ ih b p
      go (inr e) ih = rw e (add-numbered (visit m t k found) s h (rw e at p))

  -- and then keeps its number
  pub visit-stays : (c k : ℕ) (more : List Reached) → c < k → Front (visit m t k found) more
      → number_in more (step m t.state c) ≡ number_in (visit m t k found) (step m t.state c)
  visit-stays c k more l f = go (step m t.state c) refl
    where
      go : (s : ℕ) → step m t.state c ≡ s → number_in more (step m t.state c) ≡ number_in (visit m t k found) (step m t.state c)
      go zero e = ap (number_in more) e ∙ sym (ap (number_in (visit m t k found)) e)
      go (suc s) e = number-stays f (step m t.state c) (visit-numbered c k l (ap is_state e))

  -- the row of the state is known once its codes have been tried
  pub row_stays : (more : List Reached) → Front (visit m t m.width found) more → row_of m more t.state ≡ row_of m (visit m t m.width found) t.state
  row_stays more f =
      list-below-same (λ c. number_in more (step m t.state c)) (λ c. number_in (visit m t m.width found) (step m t.state c)) m.width
      (λ c l. visit-stays c m.width more l f)
