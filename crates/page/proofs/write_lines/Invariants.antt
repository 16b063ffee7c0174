use Rattle.page.proofs.WrittenLines.{LinesWritten}
use Rattle.page.proofs.write_lines.Given as goal

abbrev pub invariant-loop-i : goal.invariant-loop-i
invariant-loop-i l = LinesWritten l.book.bytes.now l.initial.page l.n l.i l.page
