-- `write_row` meets its contract: the entries passed so far are written.
use Rattle.std.proofs.Common.{ap, arith}
use Rattle.definitions.specs.Bytes.{byte}
use Rattle.join.proofs.BookRows.{row-turn}
use Rattle.join.proofs.write_row.Goals as goal

pub loop-c-preserved : goal.loop-c-preserved
loop-c-preserved c =
    let a = c.args in
    let l = c.loop-c in
    row-turn a.numbers.now a.entries.now a.row.now l.row l.c _ (omega arith) (omega (arith, c.requires)) l.invariant (ap (byte a.numbers.now) c.from.ensures)
