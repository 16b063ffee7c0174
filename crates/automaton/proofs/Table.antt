-- The table of the states that exploring finds: it is well formed, it has the machine's histories, and it is ordered, since its states are numbered by
-- their earliest histories. Where no two states that histories lead to are alike, it is tidy.
use mathlib.Core.Path.{◌≡◌, refl, sym, ap, ◌∙◌, subst}
use mathlib.Core.Bool.{true, false≢true}
use mathlib.Core.Logic.{◌⊎◌, inl, inr}
use mathlib.Core.List.{List, [], ◌∷◌, ◌++◌}
use Prim.Native.Nat.{ℕ, zero, suc, pred, ◌≤◌, ◌<◌}
use native.Mathlib.Omega.{arith}
use native.Mathlib.Decide.{dec_lt}
use lib.ListN.{length, get_or, length-map, get_or-eq_default}
use Rattle.automaton.specs.Below.{list_below}
use Rattle.automaton.specs.History.{History, Earlier, NotLater, Earliest}
use Rattle.automaton.specs.Machine.{Machine, step, after, is_state, possible_from, SameHistories, Alike}
use Rattle.automaton.specs.Explore.{Reached, number_in, unreached, reached}
use Rattle.automaton.specs.Ordered.{Before, Ordered}
use Rattle.automaton.specs.Table.{row_of, row_at, table, entry_in, tabled}
use Rattle.automaton.proofs.Order.{tri, earlier_irrefl, earlier_trans, earlier_tri, earlier_index, earlier_append, earlier_code, earlier_not-later}
use Rattle.automaton.proofs.Numbered.{Numbered}
use Rattle.automaton.proofs.Machine.{step_past, after-map_on}
use Rattle.automaton.proofs.Below.{length-list-below, get_or-list-below}
use Rattle.automaton.proofs.WellFormed.{Wide, IsTable, get_or-map-within, entry-beyond, step-entry, step-inside, after-inside}
use Rattle.automaton.proofs.Explore.{state_at, reached_history, number_hit, Sound, Follows, reached-sound}
use Rattle.automaton.proofs.Earliest.{FoundBy, Explored, reached-explored, reached-closed}
use Rattle.automaton.proofs.Tidy.{Tidy}

-- the earlier of two histories is earlier without the last codes, or differs in its smaller last code alone
earlier_last : (h k : History) (d c : ℕ) → Earlier (h ++ (d ∷ [])) (k ++ (c ∷ [])) → Earlier h k ⊎ ((h ≡ k) × (d < c))
earlier_last h k d c l = go (earlier_tri h k) (tri d c)
  where
    not_back : Earlier (k ++ (c ∷ [])) (h ++ (d ∷ [])) → ⊥
    not_back b = earlier_irrefl (h ++ (d ∷ [])) (earlier_trans (h ++ (d ∷ [])) (k ++ (c ∷ [])) (h ++ (d ∷ [])) l b)

    go : Earlier h k ⊎ ((h ≡ k) ⊎ Earlier k h) → (d < c) ⊎ ((d ≡ c) ⊎ (c < d)) → Earlier h k ⊎ ((h ≡ k) × (d < c))
    go (inl p) q = inl p
    go (inr (inl e)) (inl q) = inr (e, q)
    go (inr (inl e)) (inr (inl q)) = absurd (earlier_irrefl (k ++ (c ∷ [])) (rw (e, q) at l))
    go (inr (inl e)) (inr (inr q)) = absurd (not_back (rw (← e) (earlier_code h c d q)))
    go (inr (inr p)) q = absurd (not_back (earlier_append k h (c ∷ []) (d ∷ []) refl p))

-- a number is at most the number of states found
number-low : (found : List Reached) (s : ℕ) → number_in found s ≤ length found
number-low found s = go (number_in found s) refl
  where
    go : (n : ℕ) → number_in found s ≡ n → n ≤ length found
    go zero e = omega arith
    go (suc k) e = (number_hit found s k e).0

-- ---- the rows
module _ (m : Machine) (found : List Reached) where
  pub table-length : length (table m found) ≡ length found
  table-length = length-map found (row_at m found)

  pub row_of-table : (k : ℕ) → k < length found → get_or (table m found) k [] ≡ row_of m found (state_at found k)
  row_of-table k l = get_or-map-within (row_at m found) found k unreached [] l

  pub table-wide : Wide m.width (table m found)
  table-wide k l =
      ap length (row_of-table k (omega (arith, table-length))) ∙ length-list-below (λ c. number_in found (step m (state_at found k) c)) m.width

  -- an entry is the number of the state that the code leads to
  entry_at : (k c : ℕ) → k < length found → entry_in (table m found) (suc k) c ≡ number_in found (step m (state_at found k) c)
  entry_at k c l = ap (λ (row : List ℕ). get_or row c 0) (row_of-table k l) ∙ go (dec_lt c m.width)
    where
      entry : ℕ → ℕ
      entry c = number_in found (step m (state_at found k) c)

      go : Dec (c < m.width) → get_or (list_below m.width entry) c 0 ≡ entry c
      go (yes b) = get_or-list-below entry m.width c 0 b
      go (no b) =
          let past : length (list_below m.width entry) ≤ c = omega (arith, length-list-below entry m.width) in
          get_or-eq_default (list_below m.width entry) 0 past ∙ sym (ap (number_in found) (step_past m (state_at found k) c (omega arith)))

  entry-inside : (s c : ℕ) → entry_in (table m found) s c ≤ length (table m found)
  entry-inside zero c = omega arith
  entry-inside (suc k) c = go (dec_lt k (length found))
    where
      go : Dec (k < length found) → entry_in (table m found) (suc k) c ≤ length (table m found)
      go (yes l) = omega (arith, table-length, entry_at k c l, number-low found (step m (state_at found k) c))
      go (no l) = omega (arith, entry-beyond (table m found) (suc k) c (omega (arith, table-length)))

-- the state with a number
abbrev state_of : List Reached → ℕ → ℕ
state_of found zero = 0
state_of found (suc k) = state_at found k

module _ (m : Machine) (most : ℕ) (begins : is_state m.start ≡ true) (enough : length (reached m most) ≤ most) where
  abbrev found : List Reached
  found = reached m most

  abbrev rows : List (List ℕ)
  rows = table m found

  -- the table's machine
  abbrev M : Machine
  M = tabled m.width rows

  sound : Sound m found
  sound = reached-sound m most begins

  explored : Explored m found
  explored = reached-explored m most begins enough

  pub table-is-table : IsTable m.width rows
  table-is-table = record {
    some = omega (arith, sound.some, table-length m found);
    wide = table-wide m found;
    inside = entry-inside m found;
  }

  table_step : (k c : ℕ) → k < length found → step M (suc k) c ≡ number_in found (step m (state_at found k) c)
  table_step k c l = step-entry m.width rows table-is-table (suc k) c ∙ entry_at m found k c l

  table-inside : (n c : ℕ) → step M n c ≤ length found
  table-inside n c = omega (arith, step-inside m.width rows table-is-table n c, table-length m found)

  -- ---- the histories
  -- the states found have numbers, and only they
  number_of : (n : ℕ) → n ≤ length found → number_in found (state_of found n) ≡ n
  number_of zero l = refl
  number_of (suc k) l = sound.once k l

  number-state : (n : ℕ) → n ≤ length found → is_state (state_of found n) ≡ is_state n
  number-state zero l = refl
  number-state (suc k) l = sound.states k l

  -- a step in the table goes with a step of the machine
  state-step : (n c : ℕ) → n ≤ length found → state_of found (step M n c) ≡ step m (state_of found n) c
  state-step zero c l = refl
  state-step (suc k) c l = ap (state_of found) (table_step k c l) ∙ go (step m (state_at found k) c) refl
    where
      go : (s : ℕ) → step m (state_at found k) c ≡ s → state_of found (number_in found (step m (state_at found k) c)) ≡ step m (state_at found k) c
      go zero e = ap (λ (t : ℕ). state_of found (number_in found t)) e ∙ sym e
      go (suc s) e =
          let there = reached-closed m most begins enough k c l (ap is_state e) in
          ap (state_of found) (ap (number_in found) (sym there.2) ∙ sound.once there.0 there.1) ∙ there.2

  state-after : (n : ℕ) → n ≤ length found → (h : History) → state_of found (after M n h) ≡ after m (state_of found n) h
  state-after = after-map_on M m (state_of found) (λ n. n ≤ length found) (λ n c l. table-inside n c) state-step

  after-low : (n : ℕ) → n ≤ length found → (h : History) → after M n h ≤ length found
  after-low n l h = omega (arith, after-inside m.width rows table-is-table n h (omega (arith, table-length m found)), table-length m found)

  number_alike : (n : ℕ) → n ≤ length found → Alike M n m (state_of found n)
  number_alike n l h = sym (number-state (after M n h) (after-low n l h)) ∙ ap is_state (state-after n l h)

  start_is : state_of found 1 ≡ m.start
  start_is = ap (λ (t : Reached). t.state) sound.first

  -- the table has the machine's histories
  pub table-histories : SameHistories M m
  table-histories h = number_alike 1 sound.some h ∙ ap (λ (s : ℕ). possible_from m s h) start_is

  -- where a history leads in the table
  table-after : (h : History) → after M 1 h ≡ number_in found (after m m.start h)
  table-after h =
      sym (number_of (after M 1 h) (after-low 1 sound.some h))
      ∙ ap (number_in found) (state-after 1 sound.some h ∙ ap (λ (s : ℕ). after m s h) start_is)

  -- state k + 1 of the table is first reached by the k-th history
  pub table-earliest : (k : ℕ) → k < length found → Earliest (λ h. after M 1 h ≡ suc k) (reached_history found k)
  table-earliest k l = (table-after (reached_history found k) ∙ ap (number_in found) (explored.leads k l) ∙ sound.once k l, not-later)
    where
      not-later : (h : History) → after M 1 h ≡ suc k → NotLater (reached_history found k) h
      not-later h e =
          let r = explored.covers h (sym (table-histories h) ∙ ap is_state e) in
          let same : suc r.0 ≡ suc k = sym (sound.once r.0 r.1) ∙ ap (number_in found) r.2 ∙ sym (table-after h) ∙ e in
          let at : r.0 ≡ k = omega arith in
          rw at at r.3

  -- so its states are numbered by their earliest histories
  pub table-numbered : Numbered (after M 1) (length rows)
  table-numbered = subst (Numbered (after M 1)) (sym (table-length m found)) (record {
    history = λ s. reached_history found (pred s);
    earliest = earliest;
    in_order = λ s t some b l. explored.in_order (pred s) (pred t) (omega arith) (omega arith);
  })
    where
      earliest : (s : ℕ) → 1 ≤ s → s ≤ length found → Earliest (λ h. after M 1 h ≡ s) (reached_history found (pred s))
      earliest zero some l = absurd (omega arith)
      earliest (suc k) some l = table-earliest k l

  -- ---- the order
  -- an earlier history stands at an earlier place, and one state at one place
  earlier_place : (j k : ℕ) → j < length found → Earlier (reached_history found j) (reached_history found k) → j < k
  earlier_place j k l b = earlier_index (reached_history found) j k (λ p. explored.in_order k j p l) b

  same_place : (j k : ℕ) → j < length found → k < length found → state_at found j ≡ state_at found k → suc j ≡ suc k
  same_place j k lj lk e = sym (sound.once j lj) ∙ ap (number_in found) e ∙ sound.once k lk

  -- each state but the first is entered in the row of the state that it was found from
  parent-entry : (k : ℕ) → k < length found → (r : Follows m found k (get_or found k unreached)) → step M (suc r.parent) r.code ≡ suc k
  parent-entry k l r =
      table_step r.parent r.code (omega (arith, r.before)) ∙ ap (λ (t : Reached). number_in found t.state) (sym r.is) ∙ sound.once k l

  table-met : (t : ℕ) → 1 < t → t ≤ length found → (p : ℕ) × (d : ℕ) × (p < t) × (step M p d ≡ t)
  table-met zero b l = absurd (omega arith)
  table-met (suc k) b l = let r = sound.follows k l (omega arith) in (suc r.parent, r.code, omega (arith, r.before), parent-entry k l r)

  -- of two entries by which states were found, the one with the earlier history stands before the other
  table-in_order : (s c t : ℕ) → s ≤ length found → 1 < t → t < step M s c → (p : ℕ) × (d : ℕ) × Before p d s c × (step M p d ≡ t)
  table-in_order zero c t l b a = absurd (omega arith)
  table-in_order (suc i) c zero l b a = absurd (omega arith)
  table-in_order (suc i) c (suc k) l b a = go (step m (state_at found i) c) refl
    where
      go : (s : ℕ) → step m (state_at found i) c ≡ s → (p : ℕ) × (d : ℕ) × Before p d (suc i) c × (step M p d ≡ suc k)
      go zero e = absurd (omega (arith, table_step i c l, ap (number_in found) e))
      go (suc s) e = (suc r.parent, r.code, place (earlier_last (reached_history found r.parent) (reached_history found i) r.code c sooner), parent-entry k lk r)
        where
          -- where the entry leads
          there : FoundBy found (step m (state_at found i) c) (reached_history found i ++ (c ∷ []))
          there = reached-closed m most begins enough i c l (ap is_state e)

          before : k < there.0
          before = omega (arith, table_step i c l ∙ ap (number_in found) (sym there.2) ∙ sound.once there.0 there.1)

          lk : k < length found
          lk = omega (arith, before, there.1)

          r : Follows m found k (get_or found k unreached)
          r = sound.follows k lk (omega arith)

          sooner : Earlier (reached_history found r.parent ++ (r.code ∷ [])) (reached_history found i ++ (c ∷ []))
          sooner = subst (λ (t : Reached). Earlier t.history (reached_history found i ++ (c ∷ []))) r.is
              (earlier_not-later (reached_history found k) (reached_history found there.0) (reached_history found i ++ (c ∷ []))
              (explored.in_order k there.0 before there.1) there.3)

          lp : r.parent < length found
          lp = omega (arith, r.before, lk)

          place : Earlier (reached_history found r.parent) (reached_history found i) ⊎ ((reached_history found r.parent ≡ reached_history found i) × (r.code < c))
              → Before (suc r.parent) r.code (suc i) c
          place (inl u) = inl (omega (arith, earlier_place r.parent i lp u))
          place (inr u) =
              inr (same_place r.parent i lp l (sym (explored.leads r.parent lp) ∙ ap (after m m.start) u.0 ∙ explored.leads i l), u.1)

  -- the table is numbered in the order of its states' earliest histories
  pub table-ordered : Ordered M (length rows)
  table-ordered = subst (Ordered M) (sym (table-length m found)) (record {
    some = sound.some;
    inside = λ n c l. table-inside n c;
    met = table-met;
    in_order = table-in_order;
  })

  -- where alike states that histories lead to are equal, the table is tidy
  pub table-tidy : ((g h : History) → Alike m (after m m.start g) m (after m m.start h) → after m m.start g ≡ after m m.start h)
      → Tidy M (length rows)
  table-tidy apart = record { ordered = table-ordered; distinct = distinct }
    where
      distinct : (x y : ℕ) → x ≤ length rows → y ≤ length rows → Alike M x M y → x ≡ y
      distinct zero zero lx ly a = refl
      distinct zero (suc k) lx ly a = absurd (false≢true (a []))
      distinct (suc j) zero lx ly a = absurd (false≢true (sym (a [])))
      distinct (suc j) (suc k) lx ly a =
          let lj : j < length found = omega (arith, table-length m found) in
          let lk : k < length found = omega (arith, table-length m found) in
          let alike : Alike m (state_at found j) m (state_at found k) = λ h. sym (number_alike (suc j) lj h) ∙ a h ∙ number_alike (suc k) lk h in
          let led = apart (reached_history found j) (reached_history found k) (rw (explored.leads j lj, explored.leads k lk) alike) in
          same_place j k lj lk (sym (explored.leads j lj) ∙ led ∙ explored.leads k lk)
