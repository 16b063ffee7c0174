-- `put_hex_line` puts the digits, and the byte that ends the line.
use Rattle.text.proofs.Puts.{then}
use Rattle.booktext.proofs.hex.put_hex_line.Goals as goal

pub returns-clause-put : goal.returns-clause-put
returns-clause-put c = then c.put_each-end.ensures.put c.put_byte.ensures
