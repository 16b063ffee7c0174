-- `put_found` puts the word, and what is told.
use Rattle.text.proofs.Puts.{then}
use Rattle.booktext.proofs.lines.put_found.Goals as goal

pub returns-in-None-clause-put : goal.returns-in-None-clause-put
returns-in-None-clause-put c = rw c.in-None.is (then c.put-next.ensures c.put.ensures)

pub returns-in-Some-clause-put : goal.returns-in-Some-clause-put
returns-in-Some-clause-put c = rw c.in-Some.is (then c.put-next.ensures (rw c.first.ensures.result_value at c.put_request.ensures.put))
