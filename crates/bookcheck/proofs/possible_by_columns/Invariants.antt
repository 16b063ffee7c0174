use Rattle.bookcheck.proofs.Columns.{Columns}
use Rattle.bookcheck.proofs.possible_by_columns.Given as goal

abbrev pub invariant-loop-i : goal.invariant-loop-i
invariant-loop-i l = Columns l.layout.bytes.now l.i l.least
