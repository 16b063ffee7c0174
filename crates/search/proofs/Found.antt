-- The places of a search: what they hold, a state that is stored at the next one, and what a caller reads off them.
use mathlib.Core.Path.{◌≡◌, refl, ap, sym, ◌∙◌, subst}
use mathlib.Core.Bool.{true}
use mathlib.Core.List.{List, [], ◌∷◌, ◌++◌}
use Prim.Native.Nat.{ℕ, zero, suc, ◌+◌, ◌*◌, ◌≤◌, ◌<◌}
use native.Mathlib.Decide.{ℕ_discrete}
use native.Mathlib.Numerals.{add-one}
use native.Mathlib.Omega.{arith}
use lib.ListN.{length, get_or, set, length-append, length-set}
use lib.Seq.{get_or_at, get_or-set_same, get_or-set_other}
use borrow.Author.Tests.{ne_eqb}
use Rattle.automaton.specs.History.{History}
use Rattle.automaton.specs.Machine.{Machine, is_state, after}
use Rattle.automaton.specs.Explore.{Reached, is_at, number_in, add, unreached, reached}
use Rattle.automaton.proofs.Below.{length-list-below, get_or-list-below, place_other}
use Rattle.automaton.proofs.Explore.{Front, front_at, front_length, add_keeps, add-front, number-end, state_at, reached_history, sound_apart, reached-sound, reached-leads, reached-few}
use Rattle.automaton.proofs.Congruence.{list-below-same}
use Rattle.automaton.proofs.Machine.{is_state_law, state-is}
use Rattle.automaton.proofs.Separation.{HasStates, after-within}
use Rattle.automaton.specs.Parents.{EarlierParents}
use Rattle.automaton.proofs.Parents.{Stored, trail-same, trail-last, falls-stored}
use Rattle.definitions.specs.Bytes.{byte}
use Rattle.search.specs.Trail.{first_at, second_at, placed, history_at}
use Rattle.search.specs.Found.{reached_at, found_in, Holds, number_of, Arrays, Numbered, started}
use Rattle.search.specs.Searched.{found_by, state_of}
use Rattle.search.specs.declared.breadth_first.Search.{Search}
use Rattle.search.proofs.Trails.{placed_first, placed-second, placed-length}

-- ---- what the places hold
module _ (order trail : List ℕ) (n : ℕ) where
  pub found-length : length (found_in n order trail) ≡ n
  unfolding found_in
  found-length = length-list-below (reached_at order trail) n

  pub found_at : (k : ℕ) → k < n → get_or (found_in n order trail) k unreached ≡ reached_at order trail k
  unfolding found_in
  found_at k l = get_or-list-below (reached_at order trail) n k unreached l

module _ {found : List Reached} {n : ℕ} {order trail : List ℕ} (H : Holds found n order trail) where
  pub holds-length : n ≡ length found
  holds-length = sym (found-length order trail n) ∙ ap length H.are

  pub holds_at : (k : ℕ) → k < n → get_or found k unreached ≡ reached_at order trail k
  holds_at k l = ap (λ (t : List Reached). get_or t k unreached) (sym H.are) ∙ found_at order trail n k l

-- ---- what a search holds
pub holds_of : {N M : ℕ} (s : Search N M) {found : List Reached} → found_by s ≡ found → Holds found s.count s.order s.trail
holds_of s are = record { are = are; falls = s.earlier }

-- the arrays of a search hold what they say
pub as_found : {found : List Reached} {n : ℕ} {order trail numbers : List ℕ} → Arrays found n order trail numbers → Arrays (found_in n order trail) n order trail numbers
as_found S = rw S.holds.are S

-- ---- a list that grows at its end, in other arrays: no place is lost, and each holds what it held
module _ (n : ℕ) (order trail : List ℕ) (k : ℕ) (order' trail' : List ℕ) {more : List Reached} (front : Front (found_in n order trail) more) (e : found_in k order' trail' ≡ more) where
  long : length more ≡ k
  long = ap length (sym e) ∙ found-length order' trail' k

  pub kept_grown : n ≤ k
  kept_grown = omega (arith, long, front_length front, found-length order trail n)

  pub kept_at : (j : ℕ) → j < n → reached_at order' trail' j ≡ reached_at order trail j
  kept_at j l =
      sym (found_at order' trail' k j (omega (arith, kept_grown))) ∙ ap (λ (t : List Reached). get_or t j unreached) e
      ∙ front_at front j (omega (arith, found-length order trail n)) ∙ found_at order trail n j l

-- ---- what is reached in a machine that has states 1 to k
module _ (m : Machine) (k : ℕ) (has : HasStates m k) where
  begins : is_state m.start ≡ true
  begins = is_state_law m.start has.start.least

  pub reached-inside : (i : ℕ) → i < length (reached m 127) → (1 ≤ state_at (reached m 127) i) × (state_at (reached m 127) i ≤ k)
  reached-inside i l = (
    state-is (state_at (reached m 127) i) ((reached-sound m 127 begins).states i l),
    subst (λ (s : ℕ). s ≤ k) (reached-leads m 127 begins i l) (after-within m k has m.start has.start.most (reached_history (reached m 127) i)),
  )

  pub reached-most : length (reached m 127) ≤ k
  reached-most = reached-few m 127 begins k has.steps has.start.most

  module _ {n : ℕ} {order trail : List ℕ} (H : Holds (reached m 127) n order trail) where
    pub holds-some : 1 ≤ n
    holds-some = subst (λ (j : ℕ). 1 ≤ j) (sym (holds-length H)) (reached-sound m 127 begins).some

    in_l : (i : ℕ) → i < n → i < length (reached m 127)
    in_l i l = subst (λ (j : ℕ). i < j) (holds-length H) l

    state_at_law : (i : ℕ) → i < n → state_at (reached m 127) i ≡ byte order i
    state_at_law i l = ap (λ (t : Reached). t.state) (holds_at H i l)

    -- each state stands at one place
    pub holds-once : (j k : ℕ) → j < k → k < n → byte order j ≡ byte order k → ⊥
    holds-once j k b l e =
        sound_apart m (reached m 127) (reached-sound m 127 begins) j k b (in_l k l) (state_at_law j (omega arith) ∙ e ∙ sym (state_at_law k l))

    module _ (i : ℕ) (l : i < n) where
      pub holds-inside : (1 ≤ byte order i) × (byte order i ≤ k)
      holds-inside = subst (λ (t : Reached). (1 ≤ t.state) × (t.state ≤ k)) (holds_at H i l) (reached-inside i (in_l i l))

      pub holds-leads : after m m.start (history_at trail i) ≡ byte order i
      holds-leads = subst (λ (t : Reached). after m m.start t.history ≡ t.state) (holds_at H i l) (reached-leads m 127 begins i (in_l i l))

-- ---- state x is stored at place n, found from place i by code c
module _ (n : ℕ) (order trail : List ℕ) (falls : EarlierParents n (first_at trail)) (room_order : n < length order) (room_trail : 2 * n + 1 < length trail)
    (x i c : ℕ) (low : i < n) where
  parents : Stored n i (first_at trail) (first_at (placed trail n i c))
  parents = placed_first trail n i c room_trail

  codes : Stored n c (second_at trail) (second_at (placed trail n i c))
  codes = placed-second trail n i c room_trail

  place_same : (k : ℕ) → k < n → reached_at (set order n x) (placed trail n i c) k ≡ reached_at order trail k
  place_same k l =
      let state : byte (set order n x) k ≡ byte order k = get_or-set_other order n k x 0 (omega arith) in
      let history : history_at (placed trail n i c) k ≡ history_at trail k = trail-same n _ _ falls i c _ _ parents codes k l in
      rw (state, history)

  place_new : reached_at (set order n x) (placed trail n i c) n ≡ record { state = x; history = history_at trail i ++ (c ∷ []) }
  place_new =
      let state : byte (set order n x) n ≡ x = get_or-set_same order n x 0 room_order in
      let history : history_at (placed trail n i c) n ≡ history_at trail i ++ (c ∷ []) = trail-last n _ _ falls i c _ _ parents codes low in
      rw (state, history)

  stored : Holds (found_in n order trail ++ (record { state = x; history = history_at trail i ++ (c ∷ []) } ∷ [])) (n + 1) (set order n x) (placed trail n i c)
  unfolding found_in
  stored = rw (add-one n) (record {
    are =
        let at = reached_at (set order n x) (placed trail n i c) in
        ap (λ (l : List Reached). l ++ (at n ∷ [])) (list-below-same at (reached_at order trail) n place_same)
        ∙ ap (λ (t : Reached). found_in n order trail ++ (t ∷ [])) place_new;
    falls = falls-stored n _ _ falls i c _ _ parents codes low;
  })

-- ---- the numbers of the states, and a state at the end
module _ (found : List Reached) (h : History) where
  abbrev with : ℕ → List Reached
  with x = found ++ (record { state = x; history = h } ∷ [])

  -- a state that has a number is not new
  add_known : (x : ℕ) → 0 < number_of found x → add found x h ≡ found
  add_known zero p = refl
  add_known (suc x) p = rw (is_state_law (number_in found (suc x)) p)

  -- one that has none is a state, and goes to the end
  add_new : (x : ℕ) → number_of found x ≡ 0 → add found x h ≡ with x
  add_new zero e = absurd (omega arith)
  add_new (suc x) e = rw e

  number_new : (x : ℕ) → number_of found x ≡ 0 → number_of (with x) x ≡ suc (length found)
  number_new zero e = absurd (omega arith)
  number_new (suc x) e = number-end found (suc x) h refl e

  number_other : (x y : ℕ) → (y ≡ x → ⊥) → number_of (with x) y ≡ number_of found y
  number_other x zero n = refl
  number_other x (suc y) n = place_other (is_at (suc y)) found (record { state = x; history = h }) (ne_eqb (suc y) x n)

-- ---- state x is noted, found from place i by code c
module _ {n : ℕ} {order trail numbers : List ℕ} (S : Arrays (found_in n order trail) n order trail numbers) (x i c : ℕ) (inside : x < length numbers) (low : i < n) where
  abbrev found : List Reached
  found = found_in n order trail

  abbrev h : History
  h = history_at trail i ++ (c ∷ [])

  pub noted_known : 0 < byte numbers x → Arrays (add found x h) n order trail numbers
  noted_known p = rw (add_known found h x (omega (arith, S.numbered x inside))) S

  module _ (none : byte numbers x ≤ 0) (fits : length (add found x h) < length numbers) where
    more : add found x h ≡ with found h x
    more = add_new found h x (omega (arith, S.numbered x inside))

    pub noted-room : n + 1 < length numbers
    noted-room = omega (arith, fits, ap length more ∙ length-append found (record { state = x; history = h } ∷ []), found-length order trail n)

    numbered-new : (s : ℕ) → s < length numbers → Dec (s ≡ x) → byte (set numbers x (n + 1)) s ≡ number_of (with found h x) s
    numbered-new s l (yes e) =
        rw e (get_or-set_same numbers x (n + 1) 0 inside
        ∙ omega (arith, number_new found h x (omega (arith, S.numbered x inside)), found-length order trail n))
    numbered-new s l (no e) = get_or-set_other numbers x s (n + 1) 0 e ∙ S.numbered s l ∙ sym (number_other found h x s e)

    pub noted-new : Arrays (add found x h) (n + 1) (set order n x) (placed trail n i c) (set numbers x (n + 1))
    noted-new = rw more (record {
      holds = stored n order trail S.holds.falls (omega (arith, noted-room, S.room_order)) (omega (arith, noted-room, S.room_trail)) x i c low;
      few = rw length-set S.few;
      room_order = simp length-set S.room_order;
      room_trail = rw (length-set, placed-length) S.room_trail;
      numbered = λ s l. numbered-new s (rw length-set at l) (ℕ_discrete s x);
    })

  -- the count grows where the state had no number
  pub noted-grows : byte numbers x ≤ 0 → length (add found x h) < length numbers → {r : ℕ} → r ≡ length (add found x h) → n < r
  noted-grows none fits e = omega (arith, e, holds-length (noted-new none fits).holds)

-- ---- what noting state x leaves: the places before, and x at the next place where it is new
-- a list with more than n states has n + 1, with x as the last
abbrev LastIs : ℕ → ℕ → List Reached → Type 0
LastIs n x more = n < length more → (length more ≡ suc n) × (state_at more n ≡ x) × (1 ≤ x)

module _ (n : ℕ) (order trail : List ℕ) (x : ℕ) (h : History) where
  last_added : LastIs n x (add (found_in n order trail) x h)
  last_added = add_keeps (LastIs n x) (found_in n order trail) h x (λ l. absurd (omega (arith, found-length order trail n))) (λ p _ l. new p)
    where
      t : Reached
      t = record { state = x; history = h }

      new : is_state x ≡ true → (length (found_in n order trail ++ (t ∷ [])) ≡ suc n) × (state_at (found_in n order trail ++ (t ∷ [])) n ≡ x) × (1 ≤ x)
      new p = (
        omega (arith, length-append (found_in n order trail) (t ∷ []), found-length order trail n),
        ap (λ (u : Reached). u.state) (get_or_at (found_in n order trail) t [] unreached n (found-length order trail n)),
        state-is x p,
      )

  module _ (r : ℕ) (order' trail' : List ℕ) (e : found_in r order' trail' ≡ add (found_in n order trail) x h) where
    before : (k : ℕ) → k < n → byte order' k ≡ byte order k
    before k l = ap (λ (t : Reached). t.state) (kept_at n order trail r order' trail' (add-front (found_in n order trail) x h) e k l)

    last : n < r → (r ≡ suc n) × (byte order' n ≡ x) × (1 ≤ x)
    last l =
        let long : r ≡ length (add (found_in n order trail) x h) = sym (found-length order' trail' r) ∙ ap length e in
        let at = last_added (omega arith) in
        (long ∙ at.0, ap (λ (t : Reached). t.state) (sym (found_at order' trail' r n l) ∙ ap (λ (t : List Reached). get_or t n unreached) e) ∙ at.1, at.2)

module _ {N M : ℕ} (s : Search N M) (x : ℕ) (h : History) (t : Search N M) (e : found_by t ≡ add (found_by s) x h) where
  pub noted-before : (k : ℕ) → k < s.count → state_of t k ≡ state_of s k
  noted-before = before s.count s.order s.trail x h t.count t.order t.trail e

  pub noted-last : s.count < t.count → (t.count ≡ suc s.count) × (state_of t s.count ≡ x) × (1 ≤ x)
  noted-last = last s.count s.order s.trail x h t.count t.order t.trail e

-- ---- the arrays of a search are its fields
pub arrays_of : {N M : ℕ} (s : Search N M) → Arrays (found_by s) s.count s.order s.trail s.numbers
arrays_of s = record {
  holds = holds_of s refl;
  few = omega (arith, s.lengths, s.sizes);
  room_order = omega (arith, s.lengths);
  room_trail = omega (arith, s.lengths, s.sizes);
  numbered = λ t l. s.numbered t (omega (arith, s.lengths));
}

pub arrays_started : {N M : ℕ} (s : Search N M) → found_by s ≡ started → Arrays started 1 s.order s.trail s.numbers
arrays_started s e =
    subst (λ (n : ℕ). Arrays started n s.order s.trail s.numbers) (holds-length (holds_of s e))
    (subst (λ (L : List Reached). Arrays L s.count s.order s.trail s.numbers) e (arrays_of s))

pub numbered_of : {found : List Reached} {n : ℕ} {order trail numbers : List ℕ} → Arrays found n order trail numbers → (t : ℕ) → t < length numbers
    → Numbered n order trail numbers t
numbered_of S t l = S.numbered t l ∙ ap (λ (L : List Reached). number_of L t) (sym S.holds.are)
