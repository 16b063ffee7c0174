-- `put_number_line` puts the word, the digits, and the byte that ends the line.
use Rattle.text.proofs.Puts.{then}
use Rattle.text.proofs.put_number_line.Goals as goal

pub returns-clause-put : goal.returns-clause-put
returns-clause-put c = then (then c.put-next.ensures c.put_decimal-end.ensures.put) c.put_byte.ensures
