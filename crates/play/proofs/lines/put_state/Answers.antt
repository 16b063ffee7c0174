-- `put_state` meets its contract: the state, what is told of each request, and the byte that ends the line.
use native.Mathlib.Omega.{arith}
use Rattle.text.proofs.Puts.{then}
use Rattle.play.proofs.lines.put_state.Goals as goal

pub returns : goal.returns
returns c =
    (then (then c.put_decimal-next.ensures.put c.put_tellings-end.ensures.put) c.put_byte.ensures, omega arith)
