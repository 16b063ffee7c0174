-- `write_rows` meets its contract: the rows passed so far stand after the header.
use Rattle.std.proofs.Common.{◌+◌, ◌*◌, refl, length, drop, arith}
use Rattle.automaton.proofs.Loops.{part_is-drop, row_within}
use Rattle.definitions.proofs.RowsWritten.{laid-turn}
use Rattle.join.specs.Numbers.{numbered_rows}
use Rattle.join.proofs.BookRows.{numbered-count, numbered_part, numbered-wide}
use Rattle.join.proofs.write_rows.Goals as goal

pub loop-i-preserved : goal.loop-i-preserved
loop-i-preserved c =
    let a = c.args in
    let t = a.table in
    let l = c.loop-i in
    let rows = numbered_rows t.rows.now t.width a.numbers.now a.order.now in
    let count = numbered-count t.rows.now t.states t.width a.numbers.now a.order.now t.well_formed c.requires.states_below.0 in
    let room = row_within l.i (length a.order.now) t.width c.loop-i-test.true in
    laid-turn 12 t.width rows a.book.now (numbered-wide t.rows.now t.states t.width a.numbers.now a.order.now t.well_formed c.requires.states_below.0)
    l.i l.book c.write_row.new.row (12 + l.i * t.width) (omega arith) (omega (arith, c.requires.room)) l.invariant refl
    (numbered_part t.rows.now t.states t.width a.numbers.now a.order.now t.well_formed c.requires.states_below.0 l.i c.from.result c.row-entries.result.now c.write_row.new.row
    (drop (12 + l.i * t.width) l.book) c.loop-i-test.true c.from.ensures c.row-entries.ensures.value (simp part_is-drop at c.write_row.ensures))
