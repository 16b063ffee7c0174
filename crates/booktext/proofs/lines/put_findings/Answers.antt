-- `put_findings` puts three lines, one after another, of what is found on the book.
use Rattle.text.proofs.Puts.{then}
use Rattle.booktext.proofs.lines.put_findings.Goals as goal

pub returns-clause-put : goal.returns-clause-put
returns-clause-put c =
    rw (← c.find_all-found.ensures.answer) (then (then c.put_found-next.ensures.put c.put_found-last.ensures.put) c.put_blocked.ensures.put)
