-- The machine of a table given as the bytes of its rows: its steps are entries. The rows of a book that passes are such a table, with the book's machine.
use mathlib.Core.Path.{◌≡◌, refl, sym, ap, ◌∙◌}
use mathlib.Core.List.{List}
use Prim.Native.Nat.{ℕ, zero, suc, ◌+◌, ◌-◌, ◌*◌, ◌/◌, ◌≤◌, ◌<◌}
use native.Mathlib.Nat.{mul-div_cancel}
use native.Mathlib.Decide.{dec_lt}
use native.Mathlib.Omega.{arith}
use lib.ListN.{length, take, drop, length-drop}
use lib.Seq.{get_or-drop}
use Rattle.automaton.specs.Machine.{step}
use Rattle.automaton.proofs.Loops.{part_is-drop}
use Rattle.automaton.proofs.Machine.{step_past}
use Rattle.automaton.proofs.WellFormed.{IsTable, step-entry, step-inside, entry-beyond}
use Rattle.automaton.proofs.Congruence.{reached-same}
use Rattle.automaton.proofs.Explore.{state_at}
use Rattle.automaton.proofs.Separation.{HasStates}
use Rattle.definitions.specs.Bytes.{byte}
use Rattle.definitions.specs.Book.{width, states, entry, book_machine}
use Rattle.definitions.specs.Checked.{BookPassed}
use Rattle.definitions.proofs.BookSteps.{step-is-entry, entry_past}
use Rattle.definitions.specs.Rows.{rows_in, TableIn}
use Rattle.definitions.proofs.TableBytes.{rows-count, entry-is, bytes-are-table}
use Rattle.book.proofs.Places.{Column, column_of, entry_at}
use Rattle.search.specs.Found.{SmallTable, rows_machine, states_of, book_states}
use Rattle.search.proofs.Found.{reached-inside, reached-most}

module _ (rows : List ℕ) (w : ℕ) (small : SmallTable rows w) where
  abbrev n : ℕ
  n = length rows / w

  is_table_law : IsTable w (rows_in rows n w)
  is_table_law = bytes-are-table rows n w small.table

  -- a step from a row is an entry
  pub rows_step : (s c : ℕ) → 1 ≤ s → s ≤ n → c < w → step (rows_machine rows w) s c ≡ byte rows ((s - 1) * w + c)
  rows_step zero c some most l = absurd (omega arith)
  rows_step (suc i) c some most l =
      let e : suc i - 1 ≡ i = omega arith in
      rw e (step-entry w (rows_in rows n w) is_table_law (suc i) c ∙ entry-is rows n w small.table i c (omega arith) l)

  -- past the rows there is none
  rows-beyond : (i c : ℕ) → n ≤ i → step (rows_machine rows w) (suc i) c ≡ 0
  rows-beyond i c l = step-entry w (rows_in rows n w) is_table_law (suc i) c ∙ entry-beyond (rows_in rows n w) (suc i) c (omega (arith, rows-count rows n w small.table))

  rows-states : HasStates (rows_machine rows w) n
  rows-states = record {
    start = record { least = omega arith; most = small.table.some };
    steps = λ s c. omega (arith, rows-count rows n w small.table, step-inside w (rows_in rows n w) is_table_law s c);
  }

  -- the states reached are rows
  pub states-few : length (states_of rows w) ≤ n
  unfolding states_of
  states-few = reached-most (rows_machine rows w) n rows-states

  pub states-inside : (i : ℕ) → i < length (states_of rows w) → (1 ≤ state_at (states_of rows w) i) × (state_at (states_of rows w) i ≤ n)
  unfolding states_of
  states-inside = reached-inside (rows_machine rows w) n rows-states

-- ---- the rows of a book that passes
module _ (b : List ℕ) (p : BookPassed b) where
  abbrev w : ℕ
  w = width b

  rows_long : length (drop 12 b) ≡ states b * w
  rows_long = rw length-drop (omega (arith, p.layout.exact))

  pub book-count : length (drop 12 b) / w ≡ states b
  book-count = ap (λ (k : ℕ). k / w) rows_long ∙ mul-div_cancel (states b) (omega (arith, p.layout.header.requests_some))

  book-table : TableIn (drop 12 b) (states b) w
  book-table = record { some = p.layout.header.states_some; whole = omega (arith, rows_long); entries = λ j l. at j (column_of (states b) w j l) }
    where
      at : (j : ℕ) → Column (states b) w j → byte (drop 12 b) j ≤ states b
      at j here =
          let i = here.row in
          let e : 12 + i * w + here.column ≡ 12 + j = omega (arith, here.is) in
          rw (get_or-drop 12 b j 0, ← e, ← entry_at b i here.column) (p.entry_most (suc i) here.column (omega arith) here.in_row here.in_width)

  pub book_rows_law : SmallTable (drop 12 b) w
  book_rows_law = record { table = rw book-count book-table; few = rw book-count p.layout.header.states_most; narrow = omega (arith, p.layout.header.width_most) }

  -- entry c of the row of state s
  pub row-entry : (s c : ℕ) → byte (drop 12 b) ((s - 1) * w + c) ≡ entry b s c
  row-entry s c =
      let place : 12 + ((s - 1) * w + c) ≡ 12 + (s - 1) * w + c = omega arith in
      get_or-drop 12 b ((s - 1) * w + c) 0 ∙ ap (byte b) place ∙ sym (get_or-drop (12 + (s - 1) * w) b c 0)

  book-step : (s c : ℕ) → step (rows_machine (drop 12 b) w) s c ≡ step (book_machine b) s c
  book-step zero c = refl
  book-step (suc i) c = go (dec_lt c w) (dec_lt i (states b))
    where
      go : Dec (c < w) → Dec (i < states b) → step (rows_machine (drop 12 b) w) (suc i) c ≡ step (book_machine b) (suc i) c
      go (no k) l = step_past (rows_machine (drop 12 b) w) (suc i) c (omega arith) ∙ sym (step_past (book_machine b) (suc i) c (omega arith))
      go (yes k) (yes l) =
          rows_step (drop 12 b) w book_rows_law (suc i) c (omega arith) (omega (arith, book-count)) k
          ∙ row-entry (suc i) c ∙ sym (step-is-entry b (suc i) c (omega arith) k)
      go (yes k) (no l) =
          rows-beyond (drop 12 b) w book_rows_law i c (omega (arith, book-count)) ∙ sym (step-is-entry b (suc i) c (omega arith) k ∙ entry_past b p i c (omega arith))

  pub book_states_law : states_of (drop 12 b) w ≡ book_states b
  unfolding states_of book_states
  book_states_law = reached-same (rows_machine (drop 12 b) w) (book_machine b) refl refl book-step 127

  -- the rows as the code hands them on, v being the width
  module _ (v : ℕ) (e : v ≡ w) where
    pub part-rows : SmallTable (take (length b - 12) (drop 12 b)) v
    part-rows = rw (part_is-drop 12 b, e) book_rows_law

    pub part_count : length (take (length b - 12) (drop 12 b)) / v ≡ states b
    part_count = rw (part_is-drop 12 b, e) book-count

    pub part_states_law : states_of (take (length b - 12) (drop 12 b)) v ≡ book_states b
    part_states_law = rw (part_is-drop 12 b, e) book_states_law
