-- `write_joined_in` meets its contract: refining, numbering and writing each begin with what the one before leaves.
use Rattle.std.proofs.Common.{◌≡◌, ◌-◌, suc, ◌∙◌, ap, List, ℕ, ◌∷◌, length, take, arith}
use native.Mathlib.Nat.{mul-le-mul_right}
use Rattle.automaton.specs.Join.{classes}
use Rattle.definitions.specs.Rows.{rows_in}
use Rattle.refine.specs.Classes.{last_round}
use Rattle.join.proofs.Numbers.{JoinedRows, names-first, joined-rows}
use Rattle.join.proofs.BookRows.{book-length, book-done}
use Rattle.join.proofs.write_joined_in.Goals.{After-number-k}
use Rattle.join.proofs.write_joined_in.Goals as goal

-- what refining leaves are the classes of alike states
alike : (raw : List ℕ) (n w : ℕ) (old new : List ℕ) → length old ≡ suc n → new ≡ last_round raw w old → new ≡ 0 ∷ classes (rows_in raw n w)
alike raw n w old new size last =
    let left : length old - 1 ≡ n = omega arith in
    last ∙ ap (λ (k : ℕ). 0 ∷ classes (rows_in raw k w)) left

-- and what is written of them
rows : (c : After-number-k)
    → let t = c.args.table in
    JoinedRows t.rows.now t.states t.width c.number-k.new.numbers (take c.number-k.result c.number-k.new.order) c.number-k.result
rows c =
    let t = c.args.table in
    let size : length c.refine_all.new.classes ≡ suc t.states = c.refine_all.auto.classes ∙ c.requires.lengths.0 in
    joined-rows t.well_formed size (alike t.rows.now t.states t.width c.args.numbers.now c.refine_all.new.classes c.requires.lengths.0 c.refine_all.ensures)
    c.number-k.new.order c.requires.ordered c.number-k.ensures.value c.number-k.ensures.numbers_after

pub number-k-requires : goal.number-k-requires
number-k-requires c =
    let t = c.args.table in
    let size : length c.refine_all.new.classes ≡ suc t.states = c.refine_all.auto.classes ∙ c.requires.lengths.0 in (
      names-first t.well_formed size (alike t.rows.now t.states t.width c.args.numbers.now c.refine_all.new.classes c.requires.lengths.0 c.refine_all.ensures),
      omega (arith, c.requires.lengths),
      omega (arith, c.refine_all.auto, c.requires.lengths),
    )

pub write_header-requires : goal.write_header-requires
write_header-requires c =
    let j = rows (goal.at.write_header-requires c).After-number-k in
    (omega (arith, c.requires.room), c.requires.room.1, omega (arith, j.few, c.requires.lengths))

pub write_rows-requires-clause-states_below : goal.write_rows-requires-clause-states_below
write_rows-requires-clause-states_below c =
    let j = rows (goal.at.write_rows-requires-clause-states_below c).After-number-k in
    (j.states, j.long)

-- the book has room for its bytes
pub write_rows-requires-clause-room : goal.write_rows-requires-clause-room
write_rows-requires-clause-room c =
    let j = rows (goal.at.write_rows-requires-clause-room c).After-number-k in
    let fits = mul-le-mul_right c.args.table.width j.few in
    rw j.size (omega (arith, c.requires.room, c.write_header.auto))

pub overflow_mul-result : goal.overflow_mul-result
overflow_mul-result c =
    let fits = mul-le-mul_right c.args.table.width (rows (goal.at.overflow_mul-result c).After-number-k).few in
    omega (arith, c.requires.room)

pub overflow_add-result : goal.overflow_add-result
overflow_add-result c =
    let fits = mul-le-mul_right c.args.table.width (rows (goal.at.overflow_add-result c).After-number-k).few in
    omega (arith, c.requires.room)

pub returns : goal.returns
returns c =
    let a = c.args in
    let six = c.requires.room.1 in
    let j = rows (goal.at.returns c).After-number-k in
    let h = c.write_header in record {
      value = book-length a.frame.now six j;
      book_after = book-done a.frame.now six j a.book.now h.new.book h.ensures c.write_rows.ensures;
    }
