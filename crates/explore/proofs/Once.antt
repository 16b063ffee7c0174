-- Lists in which each state stands once: they stay so while states are put in.
use mathlib.Core.Path.{◌≡◌, refl, sym, ap, ◌∙◌}
use mathlib.Core.Bool.{true}
use mathlib.Core.Logic.{◌⊎◌, inl, inr}
use mathlib.Core.List.{List, [], ◌∷◌, ◌++◌}
use Prim.Native.Nat.{ℕ, zero, suc, ◌<◌}
use native.Mathlib.Omega.{arith}
use lib.Dec.{eqb}
use lib.ListN.{length, get_or, length-append, get_or-append}
use lib.Seq.{get_or_at}
use Rattle.automaton.specs.Machine.{Machine, step, is_state}
use Rattle.automaton.proofs.Below.{below_suc, place_append}
use Rattle.automaton.specs.StateList.{number_among, after_codes}
use Rattle.automaton.proofs.StateList.{states-bare, number-place, number_new, added_cases, after_more, number-none}
use Rattle.explore.specs.Reaches.{Once}

-- a list that grows at its end keeps the numbers
number_append : (l more : List ℕ) (x k : ℕ) → number_among l x ≡ suc k → number_among (l ++ more) x ≡ suc k
number_append l more zero k e = absurd (omega arith)
number_append l more (suc x) k e =
    number-place (l ++ more) (suc x) refl ∙ place_append (eqb (suc x)) l more k (sym (number-place l (suc x) refl) ∙ e)

once-end : (l : List ℕ) (s : ℕ) → Once l → is_state s ≡ true → number_among l s ≡ 0 → Once (l ++ (s ∷ []))
once-end l s once p new k b = go (below_suc k (length l) (omega (arith, length-append l (s ∷ []))))
  where
    more : List ℕ
    more = l ++ (s ∷ [])

    go : (k < length l) ⊎ (k ≡ length l) → number_among more (get_or more k 0) ≡ suc k
    go (inl b) = ap (number_among more) (get_or-append l (s ∷ []) 0 k b) ∙ number_append l (s ∷ []) (get_or l k 0) k (once k b)
    go (inr e) = ap (number_among more) (get_or_at l s [] 0 k (sym e)) ∙ number_new l s p new ∙ ap suc (sym e)

pub once-one : (s : ℕ) → is_state s ≡ true → Once (s ∷ [])
once-one s p = once-end [] s (λ k b. absurd (omega arith)) p (number-none s)

pub once_after : (m : Machine) (s c : ℕ) (l : List ℕ) → Once l → Once (after_codes m s c l)
once_after m s zero l once = rw (states-bare l) once
once_after m s (suc c) l once =
    rw (after_more m s c l)
    (added_cases (after_codes m s c l) Once (step m s c) (λ _. once_after m s c l once) (λ _ _. once_after m s c l once)
    (once-end (after_codes m s c l) (step m s c) (once_after m s c l once)))
