-- The search state by state, with the states found in an array and the rows of the table one after another in a buffer.
use mathlib.Core.Path.{◌≡◌, sym, ap, ◌∙◌}
use mathlib.Core.Bool.{true}
use mathlib.Core.List.{List, [], ◌∷◌}
use Prim.Native.Nat.{ℕ, min, ◌+◌, ◌-◌, ◌*◌, ◌<◌, ◌≤◌}
use native.Mathlib.Omega.{arith}
use native.Mathlib.Nat.{zero-add, mul-le-mul_right}
use lib.ListN.{length, get_or, take, drop, set, length-set}
use lib.Seq.{take_all, take-suc-set, set_split}
use borrow.Rule.Slice.PartMut.{put_mid}
use borrow.Author.Tests.{le-leb, lt-leb}
use Rattle.automaton.specs.Machine.{Machine, is_state}
use Rattle.automaton.specs.Explore.{Reached, reached}
use Rattle.automaton.specs.Table.{table}
use Rattle.automaton.proofs.Explore.{Sound}
use Rattle.automaton.proofs.Table.{table-length, row_of-table, table-wide}
use Rattle.definitions.specs.Answer.{written}
use Rattle.definitions.specs.Rows.{laid}
use Rattle.automaton.specs.StateList.{state_list, after_codes, row_among}
use Rattle.explore.specs.Reaches.{Once, VisitedState, all_reached, Reaches}
use Rattle.automaton.proofs.StateList.{length-states}
use Rattle.definitions.proofs.SearchArray.{Searched, searched_begun, searched_all, searched-low, searched-row, searched-turn, searched_done}
use Rattle.definitions.proofs.Written.{take-written, written_again}
use Rattle.definitions.proofs.RowsWritten.{laid_none, laid-front, laid-length, laid-turn}
use Rattle.explore.proofs.Once.{once-one, once_after}
use Rattle.automaton.proofs.Loops.{row_within}

-- s states have been visited, n are found, and the rows of those visited are written
pub record StatesReached (m : Machine) (L : List Reached) (found₀ raw₀ found raw : List ℕ) (n s : ℕ) : Type 0 where
  pub room : 128 ≤ length found₀
  pub long : min 127 (length L) * m.width ≤ length raw₀
  pub search : Searched m 127 L found₀ found n s
  pub once : Once (take n found)
  pub rows : raw ≡ laid 0 (take s (table m L)) raw₀

pub reached_begun : (m : Machine) (L : List Reached) (found raw : List ℕ) → 128 ≤ length found → min 127 (length L) * m.width ≤ length raw
    → reached m 127 ≡ L → is_state m.start ≡ true → Sound m L → StatesReached m L (set found 0 m.start) raw (set found 0 m.start) raw 1 0
reached_begun m L found raw room long all begins sound = record {
  room = rw length-set room;
  long = long;
  search = searched_begun m 127 L (set found 0 m.start) (omega arith) (rw length-set (omega arith)) (take-suc-set found 0 m.start (omega arith)) all sound;
  once = rw (take-suc-set found 0 m.start (omega arith)) (once-one m.start begins);
  rows = sym (laid_none 0 raw);
}

-- where the start was put in does not count
pub reaches_from : {m : Machine} {found raw : List ℕ} {r : ℕ} {found' raw' : List ℕ} (x : ℕ) → 0 < length found → 0 < length (all_reached m)
    → Reaches m (set found 0 x) raw r found' raw' → Reaches m found raw r found' raw'
reaches_from {m} {found} x room some reaches = record {
  count = reaches.count;
  array = λ p. reaches.array p ∙ ap (λ (l : List ℕ). written (state_list (all_reached m)) l) (set_split found 0 x room)
      ∙ written_again (x ∷ []) (state_list (all_reached m)) found (omega (arith, length-states (all_reached m)));
  rows = reaches.rows;
}

module _ {m : Machine} {L : List Reached} {found₀ raw₀ found raw : List ℕ} {n s : ℕ} (now : StatesReached m L found₀ raw₀ found raw n s) where
  few : n ≤ 127
  few = now.search.few

  all : n ≤ length L
  all = searched_all now.search

  pub reached-long : length raw ≡ length raw₀
  reached-long =
      let below : s ≤ min 127 (length L) = omega (arith, now.search.inside, few, all) in
      let low = mul-le-mul_right m.width below in
      rw now.rows
      (laid-length 0 m.width (table m L) raw₀ (table-wide m L) s (omega (arith, all, now.search.inside, table-length m L)) (omega (arith, now.long, low)))

  module _ (b : s < n) where
    -- row s lies within
    pub reached-row : s * m.width + m.width ≤ length raw
    reached-row = omega (arith, row_within s (min 127 (length L)) m.width (omega (arith, few, all)), reached-long, now.long)

    -- its state has been visited, with r found then
    module _ {r : ℕ} {found' part : List ℕ} (visited : VisitedState m (get_or found s 0) (take n found) found (drop (s * m.width) raw) r found' part) where
      pub reached-over : {found'' raw'' : List ℕ} → L ≡ all_reached m → 127 < r → Reaches m found₀ raw₀ 0 found'' raw''
      reached-over e over =
          let many : 127 < length L = omega (arith, visited.over over, searched-low now.search b) in
          record {
            count = rw (← e, lt-leb (length L) 127 many);
            array = λ l. absurd (omega arith);
            rows = λ l. absurd (omega arith);
          }

      pub reached-turn : r ≤ 127 → StatesReached m L found₀ raw₀ found' (put_mid (s * m.width) (length raw - s * m.width) raw part) r (s + 1)
      reached-turn low =
          let row = row_among m (after_codes m (get_or found s 0) m.width (take n found)) (get_or found s 0) in
          let is : row ≡ get_or (table m L) s [] = searched-row now.search b ∙ sym (row_of-table m L s (omega (arith, all))) in
          record {
            room = now.room;
            long = now.long;
            search = searched-turn now.search b low (omega (arith, now.room)) (visited.count low) (visited.array low);
            once = rw (visited.array low, take-written (after_codes m (get_or found s 0) m.width (take n found)) found r (sym (visited.count low)))
                (once_after m (get_or found s 0) m.width (take n found) now.once);
            rows = laid-turn 0 m.width (table m L) raw₀ (table-wide m L) s raw part (s * m.width) (omega (arith, all, table-length m L))
                (omega (arith, reached-row, reached-long)) now.rows (sym (zero-add (s * m.width)))
                (visited.numbers low ∙ ap (λ (row : List ℕ). written row (drop (s * m.width) raw)) is);
          }

  pub reached-done : L ≡ all_reached m → n ≤ s → Reaches m found₀ raw₀ n found raw
  reached-done e l =
      let done = searched_done now.search l in
      let same : s ≡ n = omega (arith, now.search.inside) in
      record {
        count = rw (← e, ← done.0, le-leb n 127 few);
        array = λ p. rw (← e) done.1;
        rows = λ p. rw (← e)
            (now.rows ∙ ap (λ (rows : List (List ℕ)). laid 0 rows raw₀) (take_all s (table m L) (omega (arith, table-length m L, done.0)))
            ∙ laid-front (table m L) raw₀);
      }
