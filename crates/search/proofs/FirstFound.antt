-- The first of the states found that passes a test, by the lowest place that does.
use mathlib.Core.Path.{◌≡◌, refl, sym, ap, ◌∙◌}
use mathlib.Core.Bool.{Bool, cond, true, false}
use mathlib.Core.Logic.{◌⊎◌, inl, inr}
use mathlib.Core.List.{List, [], ◌∷◌, ◌++◌}
use mathlib.Core.Option.{none, some}
use Prim.Native.Nat.{ℕ, zero, suc, ◌≤◌, ◌<◌}
use native.Mathlib.Omega.{arith}
use Rattle.automaton.specs.Below.{lowest_below, list_below}
use Rattle.automaton.specs.Explore.{Reached, first_that}
use Rattle.automaton.proofs.Below.{below_suc, lowest_below_law}
use Rattle.automaton.proofs.Explore.{Front}
use Rattle.definitions.specs.Bytes.{byte}
use Rattle.search.specs.Found.{reached_at, found_in}

-- ---- lists
module _ (test : ℕ → Bool) where
  -- the first list decides, where one of its states passes
  first-front : (xs ys : List Reached) (t : Reached) → first_that test xs ≡ some t → first_that test (xs ++ ys) ≡ some t
  first-front [] ys t e = absurd (let z : ◌≡◌ {A = ℕ} 0 1 = cc in omega arith)
  first-front (x ∷ xs) ys t e = go (test x.state) e (first-front xs ys t)
    where
      go : (b : Bool) → cond b (some x) (first_that test xs) ≡ some t → (first_that test xs ≡ some t → first_that test (xs ++ ys) ≡ some t)
          → cond b (some x) (first_that test (xs ++ ys)) ≡ some t
      go true e ih = e
      go false e ih = ih e

  pub first_of_front : {xs more : List Reached} → Front xs more → (t : Reached) → first_that test xs ≡ some t → first_that test more ≡ some t
  first_of_front {xs} front t e = ap (first_that test) front.whole ∙ first-front xs front.rest t e

  -- and else the second
  first_back : (xs ys : List Reached) → first_that test xs ≡ none → first_that test (xs ++ ys) ≡ first_that test ys
  first_back [] ys e = refl
  first_back (x ∷ xs) ys e = go (test x.state) e (first_back xs ys)
    where
      go : (b : Bool) → cond b (some x) (first_that test xs) ≡ none → (first_that test xs ≡ none → first_that test (xs ++ ys) ≡ first_that test ys)
          → cond b (some x) (first_that test (xs ++ ys)) ≡ first_that test ys
      go true e ih = absurd (let z : ◌≡◌ {A = ℕ} 0 1 = cc in omega arith)
      go false e ih = ih e

  module _ (at : ℕ → Reached) where
    pub none_below : (n : ℕ) → ((k : ℕ) → k < n → test (at k).state ≡ false) → first_that test (list_below n at) ≡ none
    none_below zero fails = refl
    none_below (suc n) fails =
        first_back (list_below n at) (at n ∷ []) (none_below n (λ k l. fails k (omega arith))) ∙ ap (λ (b : Bool). cond b (some (at n)) none) (fails n (omega arith))

    pub first_below : (n k : ℕ) → k < n → test (at k).state ≡ true → ((j : ℕ) → j < k → test (at j).state ≡ false) → first_that test (list_below n at) ≡ some (at k)
    first_below zero k l p fails = absurd (omega arith)
    first_below (suc n) k l p fails = go (below_suc k n l) (λ b. first_below n k b p fails)
      where
        go : (k < n) ⊎ (k ≡ n) → (k < n → first_that test (list_below n at) ≡ some (at k)) → first_that test (list_below (suc n) at) ≡ some (at k)
        go (inl b) ih = first-front (list_below n at) (at n ∷ []) (at k) (ih b)
        go (inr e) ih =
            let last : test (at n).state ≡ true = rw e at p in
            first_back (list_below n at) (at n ∷ []) (none_below n (rw e at fails)) ∙ ap (λ (b : Bool). cond b (some (at n)) none) last
            ∙ ap (λ (j : ℕ). some (at j)) (sym e)

-- ---- the arrays of a search, where f says which of the places pass
module _ (test : ℕ → Bool) (order trail : List ℕ) (n : ℕ) (f : ℕ → Bool) (same : (k : ℕ) → k < n → test (byte order k) ≡ f k) where
  pub first-none : n ≤ lowest_below n f → first_that test (found_in n order trail) ≡ none
  unfolding found_in
  first-none l = none_below test (reached_at order trail) n (λ k b. same k b ∙ (lowest_below_law f n).first k (omega arith))

  pub first_some : (k : ℕ) → k ≡ lowest_below n f → k < n → first_that test (found_in n order trail) ≡ some (reached_at order trail k)
  unfolding found_in
  first_some k e l =
      let lowest = lowest_below_law f n in
      let passes : f k ≡ true = rw e (lowest.passes (omega arith)) in
      first_below test (reached_at order trail) n k l (same k l ∙ passes) (λ j b. same j (omega arith) ∙ lowest.first j (omega arith))
