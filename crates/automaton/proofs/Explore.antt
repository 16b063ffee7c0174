-- What exploring finds, however far it goes: each state once, with a history that leads to it and that has no more codes than there are states before it.
-- Where no step leads above n, at most n states are found.
use mathlib.Core.Path.{◌≡◌, refl, sym, ap, ◌∙◌, subst}
use mathlib.Core.Bool.{Bool, cond, true, false, false≢true}
use mathlib.Core.Logic.{◌⊎◌, inl, inr}
use mathlib.Core.List.{List, [], ◌∷◌, ◌++◌, append_assoc, append-nil}
use Prim.Native.Nat.{ℕ, zero, suc, pred, ◌+◌, ◌≤◌, ◌<◌}
use native.Mathlib.Nat.{not-suc-le-zero}
use native.Mathlib.Omega.{arith}
use lib.Dec.{ltb}
use lib.ListN.{length, get_or, length-append, get_or-append}
use lib.Seq.{get_or_at}
use borrow.Author.Tests.{eqb-true, eq-eqb, ltb-true, ltb-false}
use Rattle.automaton.specs.History.{History}
use Rattle.automaton.specs.Machine.{Machine, step, after, is_state}
use Rattle.automaton.specs.Explore.{Reached, is_at, number_in, add, visit, unreached, explore, start_of, reached}
use Rattle.automaton.proofs.Machine.{after_append, state-is}
use Rattle.automaton.proofs.Below.{below_suc, place-hit, place_append, place_end, distinct-below}

abbrev pub state_at : List Reached → ℕ → ℕ
state_at found k = (get_or found k unreached).state

abbrev pub reached_history : List Reached → ℕ → History
reached_history found k = (get_or found k unreached).history

-- ---- numbers
pub number_hit : (found : List Reached) (s k : ℕ) → number_in found s ≡ suc k → (k < length found) × (s ≡ state_at found k)
number_hit found zero k e = absurd (omega arith)
number_hit found (suc s) k e =
    let hit = place-hit (is_at (suc s)) unreached found k e in
    (hit.0, eqb-true (suc s) (state_at found k) hit.1)

number_append : (found rest : List Reached) (s k : ℕ) → number_in found s ≡ suc k → number_in (found ++ rest) s ≡ suc k
number_append found rest zero k e = e
number_append found rest (suc s) k e = place_append (is_at (suc s)) found rest k e

-- ---- a list that grows at its end
-- found stands at the front of more
pub record Front (found more : List Reached) : Type 0 where
  pub rest : List Reached
  pub whole : more ≡ found ++ rest

pub front-refl : (found : List Reached) → Front found found
front-refl found = record { rest = []; whole = sym (append-nil found) }

pub front_trans : {found more most : List Reached} → Front found more → Front more most → Front found most
front_trans {found} a b = record {
  rest = a.rest ++ b.rest;
  whole = b.whole ∙ ap (λ (l : List Reached). l ++ b.rest) a.whole ∙ append_assoc found a.rest b.rest;
}

pub front_at : {found more : List Reached} → Front found more → (k : ℕ) → k < length found → get_or more k unreached ≡ get_or found k unreached
front_at {found} f k l = ap (λ (xs : List Reached). get_or xs k unreached) f.whole ∙ get_or-append found f.rest unreached k l

pub front_length : {found more : List Reached} → Front found more → length found ≤ length more
front_length {found} {more} f = omega (arith, ap length f.whole ∙ length-append found f.rest)

-- where there are no more, it is all
pub front_same : {found more : List Reached} → Front found more → length more ≤ length found → more ≡ found
front_same {found} {more} f few = go f.rest f.whole
  where
    go : (rest : List Reached) → more ≡ found ++ rest → more ≡ found
    go [] e = e ∙ append-nil found
    go (x ∷ rest) e = absurd (omega (arith, ap length e ∙ length-append found (x ∷ rest)))

front-number : {found more : List Reached} → Front found more → (s k : ℕ) → number_in found s ≡ suc k → number_in more s ≡ suc k
front-number {found} f s k e = ap (λ (xs : List Reached). number_in xs s) f.whole ∙ number_append found f.rest s k e

-- what holds of each element and of one more at the end holds of each
pub at_end : (found : List Reached) (t : Reached) (P : ℕ → Reached → Type 0)
    → ((k : ℕ) → k < length found → P k (get_or found k unreached)) → P (length found) t
    → (k : ℕ) → k < length (found ++ (t ∷ [])) → P k (get_or (found ++ (t ∷ [])) k unreached)
at_end found t P old new k l = go (below_suc k (length found) (omega (arith, length-append found (t ∷ []))))
  where
    go : (k < length found) ⊎ (k ≡ length found) → P k (get_or (found ++ (t ∷ [])) k unreached)
    go (inl b) = subst (P k) (sym (get_or-append found (t ∷ []) unreached k b)) (old k b)
    go (inr e) = subst (P k) (sym (get_or_at found t [] unreached k (sym e))) (subst (λ (n : ℕ). P n t) (sym e) new)

-- ---- what holds before and after a state is added
module _ (P : List Reached → Type 0) (found : List Reached) (h : History) where
  pub add_keeps : (s : ℕ) → P found
      → (is_state s ≡ true → number_in found s ≡ 0 → P (found ++ (record { state = s; history = h } ∷ []))) → P (add found s h)
  add_keeps zero old new = old
  add_keeps (suc s) old new = go (number_in found (suc s)) refl
    where
      go : (n : ℕ) → number_in found (suc s) ≡ n → P (cond (is_state n) found (found ++ (record { state = suc s; history = h } ∷ [])))
      go zero e = new refl e
      go (suc k) e = old

pub add-front : (found : List Reached) (s : ℕ) (h : History) → Front found (add found s h)
add-front found s h = add_keeps (Front found) found h s (front-refl found) (λ _ _. record { rest = record { state = s; history = h } ∷ []; whole = refl })

pub number-end : (found : List Reached) (s : ℕ) (h : History) → is_state s ≡ true → number_in found s ≡ 0
    → number_in (found ++ (record { state = s; history = h } ∷ [])) s ≡ suc (length found)
number-end found zero h p e = absurd (false≢true p)
number-end found (suc s) h p e = place_end (is_at (suc s)) found (record { state = suc s; history = h }) e (eq-eqb (suc s) (suc s) refl)

-- ---- what each turn of exploring keeps, exploring keeps
-- P holds of the list with some number of states visited: all of them, if there are at most `most`
pub record Ended (P : ℕ → List Reached → Type 0) (most : ℕ) (found : List Reached) : Type 0 where
  pub visited : ℕ
  pub kept : P visited found
  pub all : length found ≤ most → length found ≤ visited

module _ (m : Machine) (P : ℕ → List Reached → Type 0)
    (turn : (i : ℕ) (found : List Reached) → i < length found → P i found → P (suc i) (visit m (get_or found i unreached) m.width found)) where
  explore-ends : (fuel i : ℕ) (found : List Reached) → P i found → Ended P (i + fuel) (explore m fuel i found)
  explore-ends zero i found p = record { visited = i; kept = p; all = λ l. omega arith }
  explore-ends (suc fuel) i found p =
      go (ltb i (length found)) refl (λ l. explore-ends fuel (suc i) (visit m (get_or found i unreached) m.width found) (turn i found l p))
    where
      more : List Reached
      more = explore m fuel (suc i) (visit m (get_or found i unreached) m.width found)

      go : (b : Bool) → ltb i (length found) ≡ b → (i < length found → Ended P (suc i + fuel) more) → Ended P (i + suc fuel) (cond b more found)
      go true q ih = let r = ih (ltb-true i (length found) q) in record { visited = r.visited; kept = r.kept; all = λ l. r.all (omega arith) }
      go false q ih = record { visited = i; kept = p; all = λ l. ltb-false i (length found) q }

  pub reached-ends : (most : ℕ) → P 0 (start_of m) → Ended P most (reached m most)
  reached-ends most p = let r = explore-ends most 0 (start_of m) p in record { visited = r.visited; kept = r.kept; all = λ l. r.all (omega arith) }

-- ---- each state is found once, from one that was found before
abbrev pub stepped : Machine → Reached → ℕ → Reached
stepped m t c = record { state = step m t.state c; history = t.history ++ (c ∷ []) }

-- t follows the state at a place before k, by a code
pub record Follows (m : Machine) (found : List Reached) (k : ℕ) (t : Reached) : Type 0 where
  pub parent : ℕ
  pub code : ℕ
  pub before : parent < k
  pub is : t ≡ stepped m (get_or found parent unreached) code

-- the first is the start, each other follows one before it; each is a state and stands once
pub record Sound (m : Machine) (found : List Reached) : Type 0 where
  pub some : 0 < length found
  pub first : get_or found 0 unreached ≡ record { state = m.start; history = [] }
  pub follows : (k : ℕ) → k < length found → 0 < k → Follows m found k (get_or found k unreached)
  pub states : (k : ℕ) → k < length found → is_state (state_at found k) ≡ true
  pub once : (k : ℕ) → k < length found → number_in found (state_at found k) ≡ suc k

module _ (m : Machine) where
  follows-front : {found more : List Reached} → Front found more → (k : ℕ) (t : Reached) → k ≤ length found → Follows m found k t → Follows m more k t
  follows-front f k t l r = record {
    parent = r.parent;
    code = r.code;
    before = r.before;
    is = r.is ∙ ap (λ (u : Reached). stepped m u r.code) (sym (front_at f r.parent (omega (arith, r.before))));
  }

  -- code c is tried from the state at place i
  sound-add : (found : List Reached) (i c : ℕ) (t : Reached) → i < length found → get_or found i unreached ≡ t → Sound m found
      → Sound m (add found (step m t.state c) (t.history ++ (c ∷ [])))
  sound-add found i c t l e r = add_keeps (Sound m) found u.history u.state r grown
    where
      u : Reached
      u = stepped m t c

      more : List Reached
      more = found ++ (u ∷ [])

      front : Front found more
      front = record { rest = u ∷ []; whole = refl }

      grown : is_state u.state ≡ true → number_in found u.state ≡ 0 → Sound m more
      grown p n = record {
        some = omega (arith, front_length front);
        first = front_at front 0 (omega arith) ∙ r.first;
        follows = at_end found u (λ k t. 0 < k → Follows m more k t)
            (λ k b q. follows-front front k (get_or found k unreached) (omega arith) (r.follows k b q))
            (λ q. follows-front front (length found) u (omega arith)
            (record { parent = i; code = c; before = l; is = ap (λ (t : Reached). stepped m t c) (sym e) }));
        states = at_end found u (λ k t. is_state t.state ≡ true) r.states p;
        once = at_end found u (λ k t. number_in more t.state ≡ suc k)
            (λ k b. front-number front (state_at found k) k (r.once k b)) (number-end found u.state u.history p n);
      }

  pub visit-front : (t : Reached) (c : ℕ) (found : List Reached) → Front found (visit m t c found)
  visit-front t zero found = front-refl found
  visit-front t (suc c) found = front_trans (visit-front t c found) (add-front (visit m t c found) (step m t.state c) (t.history ++ (c ∷ [])))

  sound-visit : (found : List Reached) (i : ℕ) → i < length found → Sound m found → (c : ℕ) → Sound m (visit m (get_or found i unreached) c found)
  sound-visit found i l r zero = r
  sound-visit found i l r (suc c) =
      let t = get_or found i unreached in
      let front = visit-front t c found in
      sound-add (visit m t c found) i c t (omega (arith, front_length front)) (front_at front i l) (sound-visit found i l r c)

  number-start : (s : ℕ) → is_state s ≡ true → number_in (record { state = s; history = [] } ∷ []) s ≡ 1
  number-start zero p = absurd (false≢true p)
  number-start (suc s) p = rw (eq-eqb (suc s) (suc s) refl)

  sound-start : is_state m.start ≡ true → Sound m (start_of m)
  sound-start begins = record {
    some = omega arith;
    first = refl;
    follows = λ k l b. absurd (omega arith);
    states = at_end [] t (λ k t. is_state t.state ≡ true) (λ k l. absurd (omega arith)) begins;
    once = at_end [] t (λ k t. number_in (start_of m) t.state ≡ suc k) (λ k l. absurd (omega arith)) (number-start m.start begins);
  }
    where
      t : Reached
      t = record { state = m.start; history = [] }

-- what holds of the start and goes on by steps holds of each state found
module _ (m : Machine) (found : List Reached) (sound : Sound m found) where
  sound_induct : (P : ℕ → Reached → Type 0) → P 0 (record { state = m.start; history = [] })
      → ((j k c : ℕ) → j < k → k < length found → P j (get_or found j unreached) → P k (stepped m (get_or found j unreached) c))
      → (fuel k : ℕ) → k < fuel → k < length found → P k (get_or found k unreached)
  sound_induct P start goes zero k b l = absurd (not-suc-le-zero b)
  sound_induct P start goes (suc fuel) zero b l = subst (P 0) (sym sound.first) start
  sound_induct P start goes (suc fuel) (suc k) b l =
      let r = sound.follows (suc k) l (omega arith) in
      subst (P (suc k)) (sym r.is)
      (goes r.parent (suc k) r.code r.before l (sound_induct P start goes fuel r.parent (omega (arith, r.before)) (omega (arith, r.before))))

  sound-leads : (k : ℕ) → k < length found → after m m.start (reached_history found k) ≡ state_at found k
  sound-leads k l = sound_induct (λ k t. after m m.start t.history ≡ t.state) refl goes (suc k) k (omega arith) l
    where
      goes : (j k c : ℕ) → j < k → k < length found → after m m.start (reached_history found j) ≡ state_at found j
          → after m m.start (reached_history found j ++ (c ∷ [])) ≡ step m (state_at found j) c
      goes j k c b l e = after_append m m.start (reached_history found j) (c ∷ []) ∙ ap (λ (s : ℕ). step m s c) e

  sound-length : (k : ℕ) → k < length found → length (reached_history found k) ≤ k
  sound-length k l = sound_induct (λ k t. length t.history ≤ k) (omega arith) goes (suc k) k (omega arith) l
    where
      goes : (j k c : ℕ) → j < k → k < length found → length (reached_history found j) ≤ j → length (reached_history found j ++ (c ∷ [])) ≤ k
      goes j k c b l e = omega (arith, length-append (reached_history found j) (c ∷ []))

  sound-above : (k : ℕ) → k < length found → 1 ≤ state_at found k
  sound-above k l = state-is (state_at found k) (sound.states k l)

  pub sound_apart : (j k : ℕ) → j < k → k < length found → state_at found j ≡ state_at found k → ⊥
  sound_apart j k b l e = omega (arith, sym (sound.once j (omega arith)) ∙ ap (number_in found) e ∙ sound.once k l)

  -- the states are 1 to n, and each is found once
  sound-few : (n : ℕ) → ((s c : ℕ) → step m s c ≤ n) → m.start ≤ n → length found ≤ n
  sound-few n low start = distinct-below n (λ k. pred (state_at found k)) (length found) inside apart
    where
      inside : (k : ℕ) → k < length found → pred (state_at found k) < n
      inside k l = omega (arith, sound-above k l, sound_induct (λ k t. t.state ≤ n) start (λ j k c b l e. low (state_at found j) c) (suc k) k (omega arith) l)

      apart : (j k : ℕ) → j < k → k < length found → pred (state_at found j) ≡ pred (state_at found k) → ⊥
      apart j k b l e = sound_apart j k b l (omega (arith, sound-above j (omega arith), sound-above k l))

module _ (m : Machine) (most : ℕ) (begins : is_state m.start ≡ true) where
  -- each state is found once, and is a state
  pub reached-sound : Sound m (reached m most)
  reached-sound = (reached-ends m (λ i found. Sound m found) (λ i found l r. sound-visit m found i l r m.width) most (sound-start m begins)).kept

  -- its history leads to it
  pub reached-leads : (k : ℕ) → k < length (reached m most) → after m m.start (reached_history (reached m most) k) ≡ state_at (reached m most) k
  reached-leads = sound-leads m (reached m most) reached-sound

  -- and has at most as many codes as there are states before it
  pub reached-short : (k : ℕ) → k < length (reached m most) → length (reached_history (reached m most) k) ≤ k
  reached-short = sound-length m (reached m most) reached-sound

  -- where no step leads above n, at most n states are found
  pub reached-few : (n : ℕ) → ((s c : ℕ) → step m s c ≤ n) → m.start ≤ n → length (reached m most) ≤ n
  reached-few = sound-few m (reached m most) reached-sound
