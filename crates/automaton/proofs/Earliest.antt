-- The states found stand in the order of their histories, and each has the earliest history of all that lead to it, if at most `most` are found.
-- So the first that passes a test has the earliest history whose state passes.
use mathlib.Core.Path.{◌≡◌, refl, sym, ap, ◌∙◌, subst}
use mathlib.Core.Bool.{Bool, cond, true, false, false≢true}
use mathlib.Core.Logic.{◌⊎◌, inl, inr}
use mathlib.Core.List.{List, [], ◌∷◌, ◌++◌, append_assoc, append-nil}
use mathlib.Core.Option.{none, some}
use Prim.Native.Nat.{ℕ, zero, suc, ◌≤◌, ◌<◌}
use native.Mathlib.Nat.{not-suc-le-zero, le_of_suc-le-suc}
use native.Mathlib.Omega.{arith}
use lib.ListN.{length, get_or, length-append, get_or-append}
use lib.Seq.{get_or_at}
use Rattle.automaton.specs.History.{History, Earlier, NotLater, Earliest}
use Rattle.automaton.specs.Machine.{Machine, step, after, is_state, possible}
use Rattle.automaton.specs.Explore.{Reached, number_in, add, visit, unreached, start_of, reached, first_that}
use Rattle.automaton.proofs.Order.{tri, earlier_trans, earlier_append, earlier_code, not-later_trans, not-later_append}
use Rattle.automaton.proofs.Machine.{step-within, possible-state}
use Rattle.automaton.proofs.Below.{below_suc}
use Rattle.automaton.proofs.Explore.{state_at, reached_history, number_hit, Front, front_at, front_length, at_end, add_keeps, add-front, visit-front, reached-ends, Ended, Sound, reached-sound, reached-leads, reached-short}

-- s is found, by a history that is not later than x
abbrev pub FoundBy : List Reached → ℕ → History → Type 0
FoundBy found s x = (k : ℕ) × (k < length found) × (state_at found k ≡ s) × NotLater (reached_history found k) x

abbrev Sorted : List Reached → Type 0
Sorted found = (k : ℕ) → k < length found → (j : ℕ) → j < k → Earlier (reached_history found j) (reached_history found k)

-- all are found by histories earlier than x
abbrev Ahead : List Reached → History → Type 0
Ahead found x = (k : ℕ) → k < length found → Earlier (reached_history found k) x

found-by-front : {found more : List Reached} → Front found more → (s : ℕ) (x : History) → FoundBy found s x → FoundBy more s x
found-by-front {found} {more} f s x r =
    let same : get_or more r.0 unreached ≡ get_or found r.0 unreached = front_at f r.0 r.1 in
    (r.0, omega (arith, front_length f, r.1), ap (λ (t : Reached). t.state) same ∙ r.2, subst (λ (t : Reached). NotLater t.history x) (sym same) r.3)

-- ---- a history x that is later than all is tried, and leads to s
module _ (found : List Reached) (x : History) (ahead : Ahead found x) where
  sorted-add : (s : ℕ) → Sorted found → Sorted (add found s x)
  sorted-add s sorted = add_keeps Sorted found x s sorted (λ _ _. at_end found t P old new)
    where
      t : Reached
      t = record { state = s; history = x }

      P : ℕ → Reached → Type 0
      P k u = (j : ℕ) → j < k → Earlier (reached_history (found ++ (t ∷ [])) j) u.history

      before : (j : ℕ) → j < length found → (y : History) → Earlier (reached_history found j) y → Earlier (reached_history (found ++ (t ∷ [])) j) y
      before j l y e = subst (λ (u : Reached). Earlier u.history y) (sym (get_or-append found (t ∷ []) unreached j l)) e

      old : (k : ℕ) → k < length found → P k (get_or found k unreached)
      old k l j b = before j (omega arith) (reached_history found k) (sorted k l j b)

      new : P (length found) t
      new j b = before j b x (ahead j b)

  ahead-add : (s : ℕ) (y : History) → Earlier x y → Ahead (add found s x) y
  ahead-add s y e = add_keeps (λ l. Ahead l y) found x s old (λ _ _. at_end found (record { state = s; history = x }) (λ k t. Earlier t.history y) old e)
    where
      old : Ahead found y
      old k l = earlier_trans (reached_history found k) x y (ahead k l) e

  -- s is there now, or was there before by an earlier history
  found_add : (s : ℕ) → is_state s ≡ true → FoundBy (add found s x) s x
  found_add zero p = absurd (false≢true p)
  found_add (suc s) p = go (number_in found (suc s)) refl
    where
      t : Reached
      t = record { state = suc s; history = x }

      last : get_or (found ++ (t ∷ [])) (length found) unreached ≡ t
      last = get_or_at found t [] unreached (length found) refl

      go : (n : ℕ) → number_in found (suc s) ≡ n → FoundBy (cond (is_state n) found (found ++ (t ∷ []))) (suc s) x
      go zero e = (length found, omega (arith, length-append found (t ∷ [])), ap (λ (u : Reached). u.state) last, inr (ap (λ (u : Reached). u.history) last))
      go (suc k) e = let hit = number_hit found (suc s) k e in (k, hit.0, sym hit.1, inl (ahead k hit.0))

-- ---- the codes are tried from t, all states found being ahead of the first
module _ (m : Machine) (t : Reached) (found : List Reached) (sorted : Sorted found) (ahead : Ahead found (t.history ++ (0 ∷ []))) where
  visit-ahead : (c : ℕ) → Ahead (visit m t c found) (t.history ++ (c ∷ []))
  visit-ahead zero = ahead
  visit-ahead (suc c) =
      ahead-add (visit m t c found) (t.history ++ (c ∷ [])) (visit-ahead c) (step m t.state c) (t.history ++ (suc c ∷ []))
      (earlier_code t.history c (suc c) (omega arith))

  visit-sorted : (c : ℕ) → Sorted (visit m t c found)
  visit-sorted zero = sorted
  visit-sorted (suc c) = sorted-add (visit m t c found) (t.history ++ (c ∷ [])) (visit-ahead c) (step m t.state c) (visit-sorted c)

  visit-found : (c d : ℕ) → d < c → is_state (step m t.state d) ≡ true → FoundBy (visit m t c found) (step m t.state d) (t.history ++ (d ∷ []))
  visit-found zero d b p = absurd (not-suc-le-zero b)
  visit-found (suc c) d b p = go (below_suc d c b) (λ b'. visit-found c d b' p)
    where
      s : ℕ
      s = step m t.state c

      x : History
      x = t.history ++ (c ∷ [])

      more : List Reached
      more = add (visit m t c found) s x

      go : (d < c) ⊎ (d ≡ c) → (d < c → FoundBy (visit m t c found) (step m t.state d) (t.history ++ (d ∷ [])))
          → FoundBy more (step m t.state d) (t.history ++ (d ∷ []))
      go (inl b') ih = found-by-front (add-front (visit m t c found) s x) (step m t.state d) (t.history ++ (d ∷ [])) (ih b')
      go (inr e) ih =
          subst (λ (n : ℕ). is_state (step m t.state n) ≡ true → FoundBy more (step m t.state n) (t.history ++ (n ∷ []))) (sym e)
          (found_add (visit m t c found) x (visit-ahead c) s) p

-- every code that is possible at t leads to a state found
abbrev Tried : Machine → List Reached → Reached → Type 0
Tried m found t = (c : ℕ) → is_state (step m t.state c) ≡ true → FoundBy found (step m t.state c) (t.history ++ (c ∷ []))

-- ---- the first i states are visited
record Visited (m : Machine) (i : ℕ) (found : List Reached) : Type 0 where
  sorted : Sorted found
  ahead : i < length found → Ahead found (reached_history found i ++ (0 ∷ []))
  tried : (j : ℕ) → j < i → j < length found → Tried m found (get_or found j unreached)

module _ (m : Machine) where
  visited-turn : (i : ℕ) (found : List Reached) → i < length found → Visited m i found → Visited m (suc i) (visit m (get_or found i unreached) m.width found)
  visited-turn i found l v = record { sorted = sorted; ahead = ahead; tried = λ j b lj. tried j (below_suc j i b) }
    where
      t : Reached
      t = get_or found i unreached

      more : List Reached
      more = visit m t m.width found

      front : Front found more
      front = visit-front m t m.width found

      same : get_or more i unreached ≡ t
      same = front_at front i l

      sorted : Sorted more
      sorted = visit-sorted m t found v.sorted (v.ahead l) m.width

      ahead : suc i < length more → Ahead more (reached_history more (suc i) ++ (0 ∷ []))
      ahead b k lk =
          earlier_trans (reached_history more k) (t.history ++ (m.width ∷ [])) (reached_history more (suc i) ++ (0 ∷ []))
          (visit-ahead m t found v.sorted (v.ahead l) m.width k lk)
          (earlier_append t.history (reached_history more (suc i)) (m.width ∷ []) (0 ∷ []) refl
          (subst (λ (u : Reached). Earlier u.history (reached_history more (suc i))) same (sorted (suc i) b i (omega arith))))

      tried : (j : ℕ) → (j < i) ⊎ (j ≡ i) → Tried m more (get_or more j unreached)
      tried j (inl b) =
          let lj : j < length found = omega arith in
          subst (Tried m more) (sym (front_at front j lj))
          (λ c p. found-by-front front (step m (state_at found j) c) (reached_history found j ++ (c ∷ [])) (v.tried j b lj c p))
      tried j (inr e) =
          subst (λ (k : ℕ). Tried m more (get_or more k unreached)) (sym e) (subst (Tried m more) (sym same)
          (λ c p. visit-found m t found v.sorted (v.ahead l) m.width c (step-within m t.state c p) p))

  visited-start : Visited m 0 (start_of m)
  visited-start = record {
    sorted = λ k l j b. absurd (omega arith);
    ahead = λ l. at_end [] (record { state = m.start; history = [] }) (λ k t. Earlier t.history (0 ∷ [])) (λ k l. absurd (omega arith)) (inl (omega arith));
    tried = λ j b l. absurd (not-suc-le-zero b);
  }

  visited-reached : (most : ℕ) → Ended (Visited m) most (reached m most)
  visited-reached most = reached-ends m (Visited m) visited-turn most visited-start

-- ---- every state with its earliest history
-- each is a state, with a history that leads to it and that has no more codes than there are states before it; the histories are in order; and every possible
-- history leads to a state found, by a history that is not later
pub record Explored (m : Machine) (found : List Reached) : Type 0 where
  pub leads : (k : ℕ) → k < length found → after m m.start (reached_history found k) ≡ state_at found k
  pub states : (k : ℕ) → k < length found → is_state (state_at found k) ≡ true
  pub short : (k : ℕ) → k < length found → length (reached_history found k) ≤ k
  pub in_order : (j k : ℕ) → j < k → k < length found → Earlier (reached_history found j) (reached_history found k)
  pub covers : (g : History) → possible m g ≡ true → FoundBy found (after m m.start g) g

module _ (m : Machine) (most : ℕ) (begins : is_state m.start ≡ true) where
  abbrev found : List Reached
  found = reached m most

  sound : Sound m found
  sound = reached-sound m most begins

  pub reached-sorted : (j k : ℕ) → j < k → k < length found → Earlier (reached_history found j) (reached_history found k)
  reached-sorted j k b l = (visited-reached m most).kept.sorted k l j b

  module _ (enough : length found ≤ most) where
    -- the steps do not leave the states found
    pub reached-closed : (k c : ℕ) → k < length found → is_state (step m (state_at found k) c) ≡ true
        → FoundBy found (step m (state_at found k) c) (reached_history found k ++ (c ∷ []))
    reached-closed k c l p = let r = visited-reached m most in r.kept.tried k (omega (arith, r.all enough)) l c p

    found-step : (s : ℕ) (x : History) (c : ℕ) → FoundBy found s x → is_state (step m s c) ≡ true → FoundBy found (step m s c) (x ++ (c ∷ []))
    found-step s x c r p =
        let k = r.0 in
        let next = reached-closed k c r.1 (subst (λ (n : ℕ). is_state (step m n c) ≡ true) (sym r.2) p) in
        let sooner = not-later_append (reached_history found k) x (c ∷ []) r.3 in (
          next.0,
          next.1,
          next.2 ∙ ap (λ (n : ℕ). step m n c) r.2,
          not-later_trans (reached_history found next.0) (reached_history found k ++ (c ∷ [])) (x ++ (c ∷ [])) next.3 sooner,
        )

    found_after : (s : ℕ) (x g : History) → FoundBy found s x → is_state (after m s g) ≡ true → FoundBy found (after m s g) (x ++ g)
    found_after s x [] r p = subst (FoundBy found s) (sym (append-nil x)) r
    found_after s x (c ∷ g) r p =
        subst (FoundBy found (after m (step m s c) g)) (append_assoc x (c ∷ []) g)
        (found_after (step m s c) (x ++ (c ∷ [])) g (found-step s x c r (possible-state m (step m s c) g p)) p)

    pub reached-covers : (g : History) → possible m g ≡ true → FoundBy found (after m m.start g) g
    reached-covers g p = found_after m.start [] g start p
      where
        start : FoundBy found m.start []
        start = (0, sound.some, ap (λ (t : Reached). t.state) sound.first, inr (ap (λ (t : Reached). t.history) sound.first))

    pub reached-explored : Explored m found
    reached-explored = record {
      leads = reached-leads m most begins;
      states = sound.states;
      short = reached-short m most begins;
      in_order = reached-sorted;
      covers = reached-covers;
    }

-- ---- the first that passes a test
-- a possible history, whose state passes
abbrev pub Passes : Machine → (ℕ → Bool) → History → Type 0
Passes m test h = (possible m h ≡ true) × (test (after m m.start h) ≡ true)

-- t has the earliest history that passes, and its history has fewer codes than there are states
pub record First (m : Machine) (test : ℕ → Bool) (found : List Reached) (t : Reached) : Type 0 where
  pub earliest : Earliest (Passes m test) t.history
  pub leads : after m m.start t.history ≡ t.state
  pub short : length t.history < length found

module _ (test : ℕ → Bool) where
  -- t is the first in the list that passes
  abbrev IsFirst : List Reached → Reached → Type 0
  IsFirst found t =
      (k : ℕ) × (k < length found) × (get_or found k unreached ≡ t) × (test (state_at found k) ≡ true) × ((j : ℕ) → j < k → test (state_at found j) ≡ false)

  first_at_law : (found : List Reached) (t : Reached) → first_that test found ≡ some t → IsFirst found t
  first_at_law [] t e = absurd (let z : ◌≡◌ {A = ℕ} 0 1 = cc in omega arith)
  first_at_law (x ∷ found) t e = go (test x.state) refl e (first_at_law found t)
    where
      later : test x.state ≡ false → IsFirst found t → IsFirst (x ∷ found) t
      later q r = (suc r.0, omega (arith, r.1), r.2, r.3, fails)
        where
          fails : (j : ℕ) → j < suc r.0 → test (state_at (x ∷ found) j) ≡ false
          fails zero b = q
          fails (suc j) b = r.4 j (le_of_suc-le-suc b)

      go : (b : Bool) → test x.state ≡ b → cond b (some x) (first_that test found) ≡ some t
          → (first_that test found ≡ some t → IsFirst found t) → IsFirst (x ∷ found) t
      go true q e ih = (0, omega arith, cc, q, λ j b. absurd (not-suc-le-zero b))
      go false q e ih = later q (ih e)

  none_passes : (found : List Reached) → first_that test found ≡ none → (k : ℕ) → k < length found → test (state_at found k) ≡ false
  none_passes [] e k l = absurd (not-suc-le-zero l)
  none_passes (x ∷ found) e k l = go (test x.state) refl e k l (none_passes found)
    where
      go : (b : Bool) → test x.state ≡ b → cond b (some x) (first_that test found) ≡ none → (k : ℕ) → k < suc (length found)
          → (first_that test found ≡ none → (k : ℕ) → k < length found → test (state_at found k) ≡ false) → test (state_at (x ∷ found) k) ≡ false
      go true q e k l ih = absurd (let z : ◌≡◌ {A = ℕ} 0 1 = cc in omega arith)
      go false q e zero l ih = q
      go false q e (suc k) l ih = ih e k (le_of_suc-le-suc l)

  module _ (m : Machine) (found : List Reached) (E : Explored m found) where
    -- the first that passes has the earliest history that does
    pub first-earliest : (t : Reached) → first_that test found ≡ some t → First m test found t
    first-earliest t e = subst (First m test found) r.2 (record { earliest = (passes, earliest); leads = E.leads k l; short = omega (arith, E.short k l, l) })
      where
        r : IsFirst found t
        r = first_at_law found t e

        k : ℕ
        k = r.0

        l : k < length found
        l = r.1

        passes : Passes m test (reached_history found k)
        passes = (ap is_state (E.leads k l) ∙ E.states k l, ap test (E.leads k l) ∙ r.3)

        earliest : (g : History) → Passes m test g → NotLater (reached_history found k) g
        earliest g p = go (E.covers g p.0)
          where
            go : FoundBy found (after m m.start g) g → NotLater (reached_history found k) g
            go (j, lj, at, sooner) = cases (tri j k)
              where
                cases : (j < k) ⊎ ((j ≡ k) ⊎ (k < j)) → NotLater (reached_history found k) g
                cases (inl b) = absurd (false≢true (sym (r.4 j b) ∙ ap test at ∙ p.1))
                cases (inr (inl same)) = subst (λ (i : ℕ). NotLater (reached_history found i) g) same sooner
                cases (inr (inr b)) = not-later_trans (reached_history found k) (reached_history found j) g (inl (E.in_order k j b lj)) sooner

    -- where there is none, no possible history passes
    pub first-none : first_that test found ≡ none → (h : History) → Passes m test h → ⊥
    first-none e h p = let r = E.covers h p.0 in false≢true (sym (none_passes found e r.0 r.1) ∙ ap test r.2 ∙ p.1)
