-- The visits of a search: the codes of one state, and the states one after another. What is found, with what is still to come, is all that is reached.
use mathlib.Core.Path.{◌≡◌, refl, ap, sym, ◌∙◌, subst}
use mathlib.Core.List.{List, [], ◌∷◌, ◌++◌}
use Prim.Native.Nat.{ℕ, zero, suc, ◌+◌, ◌-◌, ◌*◌, ◌/◌, ◌≤◌, ◌<◌}
use native.Mathlib.Numerals.{add-one}
use native.Mathlib.Omega.{arith}
use lib.ListN.{length, get_or, set, take, drop, replicate, length-set, length-replicate, get_or-replicate}
use Rattle.std.proofs.lemmas.List.{length-take, get_or-take, get_or-drop}
use lib.Seq.{get_or-set_same, get_or-set_other}
use borrow.Author.Tests.{ne_eqb}
use Rattle.automaton.specs.Machine.{Machine}
use Rattle.automaton.specs.Explore.{Reached, add, visit, unreached, start_of, reached}
use Rattle.automaton.proofs.Explore.{Front, front_trans, front_at, front_length, front_same, visit-front}
use Rattle.automaton.proofs.Parents.{trail-start}
use Rattle.automaton.proofs.RemainingSearch.{visit_grows, Remains, remains_begun, remains_turn, remains_front, remains_done}
use Rattle.definitions.specs.Bytes.{byte}
use Rattle.definitions.proofs.TableBytes.{state-row, state-entry}
use Rattle.search.specs.Trail.{first_at, second_at, history_at}
use Rattle.search.specs.Found.{SmallTable, rows_machine, states_of, reached_at, found_in, number_of, Arrays, EmptyArrays, visited_at, CanVisit, Numbered, started}
use Rattle.search.specs.Searched as Searched
use Rattle.search.specs.declared.breadth_first.Search.{Search}
use Rattle.search.proofs.TableRows.{rows_step, states-few, states-inside}
use Rattle.search.proofs.Found.{found-length, found_at, kept_grown, kept_at}

-- ---- the codes of one state
-- of the state at place i of n the codes below c have been tried, and k states are found
pub record TriedIn (rows : List ℕ) (w : ℕ) (order₀ trail₀ : List ℕ) (n i c k : ℕ) (order trail : List ℕ) : Type 0 where
  pub are : found_in k order trail ≡ visit (rows_machine rows w) (reached_at order₀ trail₀ i) c (found_in n order₀ trail₀)
  pub within : c ≤ w

-- the same of the search s₀, which leaves s
abbrev pub Tried : {N M : ℕ} → List ℕ → ℕ → Search N M → ℕ → ℕ → Search N M → Type 0
Tried rows w s₀ i c s = TriedIn rows w s₀.order s₀.trail s₀.count i c s.count s.order s.trail

pub tried_begun : (rows : List ℕ) (w n : ℕ) (order trail : List ℕ) (i : ℕ) → TriedIn rows w order trail n i 0 n order trail
tried_begun rows w n order trail i = record { are = refl; within = omega arith }

module _ {rows : List ℕ} {w : ℕ} {order₀ trail₀ : List ℕ} {n i : ℕ} (small : SmallTable rows w) (can : CanVisit rows w order₀ trail₀ n i) where
  abbrev m : Machine
  m = rows_machine rows w

  abbrev t : Reached
  t = reached_at order₀ trail₀ i

  abbrev before : List Reached
  before = found_in n order₀ trail₀

  pub tried-low : i < length rows / w
  tried-low = omega (arith, can.before, can.room, found-length order₀ trail₀ n, front_length (visit-front m t w before))

  -- the row of the state, x, as the code has read it
  pub tried-row : (x : ℕ) → x ≡ byte order₀ i → (x - 1) * w + w ≤ length rows
  tried-row x ex = rw ex (state-row small.table (byte order₀ i) can.some can.most)

  module _ {c k : ℕ} {order trail : List ℕ} (T : TriedIn rows w order₀ trail₀ n i c k order trail) where
    pub tried-done : w ≤ c → found_in k order trail ≡ visited_at rows w order₀ trail₀ n i
    tried-done l = let e : c ≡ w = omega (arith, T.within) in rw e at T.are

    pub tried-grown : n ≤ k
    tried-grown = kept_grown n order₀ trail₀ k order trail (visit-front m t c before) T.are

    place : i < k
    place = omega (arith, can.before, tried-grown)

    history-same : history_at trail i ≡ history_at trail₀ i
    history-same = ap (λ (u : Reached). u.history) (kept_at n order₀ trail₀ k order trail (visit-front m t c before) T.are i can.before)

    -- the next code leads to x, which stands in the row of the state y
    module _ (l : c < w) (y : ℕ) (ey : y ≡ byte order₀ i) (x : ℕ) (ex : x ≡ byte rows ((y - 1) * w + c)) where
      entry : x ≡ byte rows ((byte order₀ i - 1) * w + c)
      entry = ex ∙ ap (λ (u : ℕ). byte rows ((u - 1) * w + c)) ey

      next : add (found_in k order trail) x (history_at trail i ++ (c ∷ [])) ≡ visit m t (c + 1) before
      next = rw (T.are, entry ∙ sym (rows_step rows w small (byte order₀ i) c can.some can.most l), history-same, add-one)

      -- what `note` asks for
      pub tried-asks : {size : ℕ} → length rows / w < size → ((x < size) × (i < k) × (c < 256)) × (length (add (found_in k order trail) x (history_at trail i ++ (c ∷ []))) < size)
      tried-asks enough = (
        (omega (arith, entry, small.few, state-entry small.table (byte order₀ i) can.some can.most c l), place, omega (arith, small.narrow)),
        rw next (omega (arith, can.room, front_length (visit_grows m t before (c + 1) w (omega arith)))),
      )

      pub tried-turn : {r : ℕ} {order' trail' : List ℕ} → found_in r order' trail' ≡ add (found_in k order trail) x (history_at trail i ++ (c ∷ []))
          → TriedIn rows w order₀ trail₀ n i (c + 1) r order' trail'
      tried-turn e = record { are = e ∙ next; within = omega arith }

-- a search can visit a place where its arrays can, and the other way round
pub can_visit_in : {rows : List ℕ} {w : ℕ} {N M : ℕ} {s : Search N M} {i : ℕ} → Searched.CanVisit rows w s i → CanVisit rows w s.order s.trail s.count i
can_visit_in can = record { before = can.before; some = can.some; most = can.most; room = can.room }

pub can_visit_of : {rows : List ℕ} {w : ℕ} {N M : ℕ} (s : Search N M) {i : ℕ} → CanVisit rows w s.order s.trail s.count i → Searched.CanVisit rows w s i
can_visit_of s can = record { before = can.before; some = can.some; most = can.most; room = can.room }

-- ---- the row as the code hands it on
module _ (rows : List ℕ) (start w c : ℕ) (here : c < length (take (start + w - start) (drop start rows))) where
  pub part-code : c < w
  part-code = omega (arith, here, length-take (start + w - start) (drop start rows))

  pub part-entry : get_or (take (start + w - start) (drop start rows)) c 0 ≡ byte rows (start + c)
  part-entry =
      let low : c < start + w - start = omega (arith, part-code) in
      rw get_or-take (get_or-drop start rows c 0)

-- ---- the states one after another: i have been visited, n are found, and the rest of the search finds those that are still to come
pub record SearchTurnIn (rows : List ℕ) (w i n : ℕ) (order trail : List ℕ) : Type 0 where
  pub within : i ≤ n
  pub come : Remains (rows_machine rows w) 127 (states_of rows w) i (found_in n order trail)

abbrev pub SearchTurn : {N M : ℕ} → List ℕ → ℕ → ℕ → Search N M → Type 0
SearchTurn rows w i s = SearchTurnIn rows w i s.count s.order s.trail

come_begun : (m : Machine) (most : ℕ) (L found : List Reached) → found ≡ start_of m → reached m most ≡ L → Remains m most L 0 found
come_begun m most L found e all = rw e (remains_begun m most L all)

all_states_law : (rows : List ℕ) (w : ℕ) → reached (rows_machine rows w) 127 ≡ states_of rows w
unfolding states_of
all_states_law rows w = refl

-- only state 1 is found
pub searched_begun : (rows : List ℕ) (w : ℕ) {n : ℕ} {order trail : List ℕ} → found_in n order trail ≡ started → SearchTurnIn rows w 0 n order trail
searched_begun rows w {n} {order} {trail} e = record {
  within = omega arith;
  come = come_begun (rows_machine rows w) 127 (states_of rows w) (found_in n order trail) e (all_states_law rows w);
}

-- ---- arrays that a search begins with: state 1 is found
module _ (order trail : List ℕ) (some : 1 ≤ length order) where
  first : found_in 1 (set order 0 1) trail ≡ started
  unfolding found_in
  first =
      let state : byte (set order 0 1) 0 ≡ 1 = get_or-set_same order 0 1 0 (omega arith) in
      let history : history_at trail 0 ≡ [] = trail-start (first_at trail) (second_at trail) in
      rw (state, history)

-- and has its number
module _ (numbers : List ℕ) (n : ℕ) (empty : numbers ≡ replicate n 0) where
  room : length numbers ≡ n
  room = ap length empty ∙ length-replicate n 0

  numbered : (s : ℕ) → s < n → byte (set (set numbers 0 1) 1 1) s ≡ number_of started s
  numbered zero l = get_or-set_other (set numbers 0 1) 1 0 1 0 (λ e. omega arith) ∙ get_or-set_same numbers 0 1 0 (omega (arith, room))
  numbered (suc zero) l = get_or-set_same (set numbers 0 1) 1 1 0 (rw length-set (omega (arith, room)))
  numbered (suc (suc s)) l =
      get_or-set_other (set numbers 0 1) 1 (suc (suc s)) 1 0 (λ e. omega arith) ∙ get_or-set_other numbers 0 (suc (suc s)) 1 0 (λ e. omega arith)
      ∙ ap (λ (x : List ℕ). byte x (suc (suc s))) empty ∙ get_or-replicate n (suc (suc s)) 0 0 l ∙ rw (ne_eqb (suc (suc s)) 1 (λ e. omega arith))

module _ (most : ℕ) (order trail numbers : List ℕ) (some : 1 ≤ most) (E : EmptyArrays most order trail numbers) where
  pub arrays_begun : Arrays started 1 (set order 0 1) trail (set (set numbers 0 1) 1 1)
  arrays_begun = record {
    holds = record { are = first order trail (omega (arith, some, E.enough, E.room_order)); falls = λ k l. absurd (omega arith) };
    few = simp length-set E.few;
    room_order = simp length-set E.room_order;
    room_trail = simp length-set E.room_trail;
    numbered = λ s l. numbered numbers (length numbers) E.empty s (simp length-set at l);
  }

-- those of a new search
module _ (N M : ℕ) (two : 1 < N) {order numbers : List ℕ} (eo : order ≡ set (replicate N 0) 0 1) (en : numbers ≡ set (set (replicate N 0) 0 1) 1 1) where
  pub new-found : found_in 1 order (replicate M 0) ≡ started
  new-found = rw eo (first (replicate N 0) (replicate M 0) (omega (arith, length-replicate {A = ℕ} N 0)))

  pub new-numbered : (s : ℕ) → s < N → Numbered 1 order (replicate M 0) numbers s
  new-numbered s l =
      ap (λ (x : List ℕ). byte x s) en ∙ numbered (replicate N 0) N refl s l
      ∙ ap (λ (L : List Reached). number_of L s) (sym new-found)

-- ---- a search that goes on
module _ (rows : List ℕ) (w : ℕ) (small : SmallTable rows w) {i n : ℕ} {order trail : List ℕ} (S : SearchTurnIn rows w i n order trail) where
  abbrev found : List Reached
  found = found_in n order trail

  count-is : length found ≡ n
  count-is = found-length order trail n

  front : Front found (states_of rows w)
  front = remains_front (rows_machine rows w) 127 (states_of rows w) i found S.come

  pub searched_few : n ≤ 127
  searched_few = omega (arith, small.few, states-few rows w small, front_length front, count-is)

  pub searched_done : n ≤ i → found_in n order trail ≡ states_of rows w
  searched_done l = remains_done (rows_machine rows w) 127 (states_of rows w) i found (omega (arith, count-is)) S.come

  -- where as many states are found as there are rows, all are
  pub searched_all : length rows / w ≤ n → found_in n order trail ≡ states_of rows w
  searched_all l = sym (front_same front (omega (arith, states-few rows w small, count-is)))

  module _ (b : i < n) where
    here : get_or found i unreached ≡ reached_at order trail i
    here = found_at order trail n i b

    come-on : Remains (rows_machine rows w) 127 (states_of rows w) (suc i) (visited_at rows w order trail n i)
    come-on = rw (← here) (remains_turn (rows_machine rows w) 127 (states_of rows w) i found (omega (arith, count-is)) (omega (arith, searched_few)) S.come)

    state : (1 ≤ byte order i) × (byte order i ≤ length rows / w)
    state =
        let at = front_at front i (omega (arith, count-is)) ∙ here in
        subst (λ (t : Reached). (1 ≤ t.state) × (t.state ≤ length rows / w)) at (states-inside rows w small i (omega (arith, front_length front, count-is)))

    pub searched-next : CanVisit rows w order trail n i
    searched-next = record {
      before = b;
      some = state.0;
      most = state.1;
      room = omega (arith, states-few rows w small, front_length (remains_front (rows_machine rows w) 127 (states_of rows w) (suc i) (visited_at rows w order trail n i) come-on));
    }

    -- what is found after some of the codes stands at the front of all that is reached
    pub searched-front : (c : ℕ) → c ≤ w → Front (visit (rows_machine rows w) (reached_at order trail i) c found) (states_of rows w)
    searched-front c l =
        front_trans (visit_grows (rows_machine rows w) (reached_at order trail i) found c w l)
        (remains_front (rows_machine rows w) 127 (states_of rows w) (suc i) (visited_at rows w order trail n i) come-on)

    pub searched-turn : {r : ℕ} {order' trail' : List ℕ} → found_in r order' trail' ≡ visited_at rows w order trail n i → SearchTurnIn rows w (i + 1) r order' trail'
    searched-turn {r} {order'} {trail'} e = record {
      within = omega (arith, kept_grown n order trail r order' trail' (visit-front (rows_machine rows w) (reached_at order trail i) w found) e);
      come = rw (add-one, e) come-on;
    }
