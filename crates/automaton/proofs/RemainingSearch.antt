-- Breadth-first search in turns: what is found so far, with what is still to come, is all that is reached. A list of states only grows, at its end.
use mathlib.Core.Path.{◌≡◌, refl, ap, ◌∙◌}
use mathlib.Core.Bool.{Bool, cond, true, false}
use mathlib.Core.List.{List, [], ◌∷◌, ◌++◌}
use Prim.Native.Nat.{ℕ, zero, suc, ◌-◌, ◌<◌, ◌≤◌}
use native.Mathlib.Nat.{sub-zero}
use native.Mathlib.Decide.{dec_le}
use native.Mathlib.Omega.{arith}
use lib.Dec.{ltb}
use lib.ListN.{length, get_or, length-append}
use borrow.Author.Tests.{lt-ltb, le-ltb}
use Rattle.automaton.specs.History.{History}
use Rattle.automaton.specs.Machine.{Machine, step}
use Rattle.automaton.specs.Explore.{Reached, visit, unreached, explore, start_of, reached}
use Rattle.automaton.proofs.Explore.{reached_history, Front, front-refl, front_trans, at_end, add_keeps, add-front, visit-front}

module _ (m : Machine) (t : Reached) (found : List Reached) where
  pub visit_grows : (c k : ℕ) → c ≤ k → Front (visit m t c found) (visit m t k found)
  visit_grows c zero b = let e : c ≡ 0 = omega arith in rw e (front-refl found)
  visit_grows c (suc k) b = go (dec_le c k) (visit_grows c k)
    where
      go : Dec (c ≤ k) → (c ≤ k → Front (visit m t c found) (visit m t k found)) → Front (visit m t c found) (visit m t (suc k) found)
      go (yes d) ih = front_trans (ih d) (add-front (visit m t k found) (step m t.state k) (t.history ++ (k ∷ [])))
      go (no d) ih = let e : c ≡ suc k = omega arith in rw e (front-refl (visit m t (suc k) found))

  -- each state that a visit finds has a history of one code more
  pub visit_longer : (c k : ℕ) → length found ≤ k → k < length (visit m t c found) → length (reached_history (visit m t c found) k) ≡ suc (length t.history)
  visit_longer zero k l b = absurd (omega arith)
  visit_longer (suc c) k l b =
      add_keeps Longer before h (step m t.state c) (visit_longer c) (λ _ _ i low in_list. at_end before u OneMore (λ j inside from. visit_longer c j from inside) (λ _. longer) i in_list low) k l b
    where
      before : List Reached
      before = visit m t c found

      h : History
      h = t.history ++ (c ∷ [])

      u : Reached
      u = record { state = step m t.state c; history = h }

      longer : length h ≡ suc (length t.history)
      longer = omega (arith, length-append t.history (c ∷ []))

      OneMore : ℕ → Reached → Type 0
      OneMore k v = length found ≤ k → length v.history ≡ suc (length t.history)

      Longer : List Reached → Type 0
      Longer more = (k : ℕ) → length found ≤ k → k < length more → length (reached_history more k) ≡ suc (length t.history)

module _ (m : Machine) where
  explore-front : (fuel i : ℕ) (found : List Reached) → Front found (explore m fuel i found)
  explore-front zero i found = front-refl found
  explore-front (suc fuel) i found =
      go (ltb i (length found)) (front_trans (visit-front m t m.width found) (explore-front fuel (suc i) (visit m t m.width found)))
    where
      t : Reached
      t = get_or found i unreached

      more : List Reached
      more = explore m fuel (suc i) (visit m t m.width found)

      go : (b : Bool) → Front found more → Front found (cond b more found)
      go true f = f
      go false f = front-refl found

-- i states have been visited, and the rest of the search finds the others; all, at most `most` of them visited, are those in L
abbrev pub Remains : Machine → ℕ → List Reached → ℕ → List Reached → Type 0
Remains m most L i found = explore m (most - i) i found ≡ L

module _ (m : Machine) (most : ℕ) (L : List Reached) where
  pub remains_begun : reached m most ≡ L → Remains m most L 0 (start_of m)
  remains_begun e = ap (λ (fuel : ℕ). explore m fuel 0 (start_of m)) (sub-zero most) ∙ e

  pub remains_turn : (i : ℕ) (found : List Reached) → i < length found → i < most → Remains m most L i found
      → Remains m most L (suc i) (visit m (get_or found i unreached) m.width found)
  remains_turn i found l b come =
      let e : most - i ≡ suc (most - suc i) = omega arith in
      let here : explore m (suc (most - suc i)) i found ≡ L = rw e at come in
      rw (lt-ltb i (length found) l) at here

  pub remains_front : (i : ℕ) (found : List Reached) → Remains m most L i found → Front found L
  remains_front i found come = rw come at (explore-front m (most - i) i found)

  pub remains_done : (i : ℕ) (found : List Reached) → length found ≤ i → Remains m most L i found → found ≡ L
  remains_done i found l come = go (most - i) refl
    where
      go : (fuel : ℕ) → most - i ≡ fuel → found ≡ L
      go zero e = rw e at come
      go (suc fuel) e =
          let here : explore m (suc fuel) i found ≡ L = rw e at come in
          rw (le-ltb i (length found) l) at here
