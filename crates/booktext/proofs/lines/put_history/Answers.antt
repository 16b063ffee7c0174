-- `put_history` puts the number of codes, the codes, and the byte that ends the line.
use Rattle.text.proofs.Puts.{then}
use Rattle.booktext.proofs.lines.put_history.Goals as goal

pub returns-clause-put : goal.returns-clause-put
returns-clause-put c = then (then c.put_decimal-next.ensures.put c.put_codes-end.ensures.put) c.put_byte.ensures
