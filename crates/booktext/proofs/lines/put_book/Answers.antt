-- `put_book` puts the line of the states, and those of the findings.
use Rattle.text.proofs.Puts.{then}
use Rattle.booktext.proofs.FindingLines.{book-is}
use Rattle.booktext.proofs.lines.put_book.Goals as goal

pub returns-clause-put : goal.returns-clause-put
returns-clause-put c =
    rw (← book-is c.args.book.bytes.now) (then (rw c.states.ensures at c.put_number_line-next.ensures.put) c.put_findings.ensures.put)
