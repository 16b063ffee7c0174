-- `write_line` meets its contract: head, requests and the byte that ends the line.
use native.Mathlib.Omega.{arith}
use Rattle.text.proofs.Puts.{then}
use Rattle.text.proofs.Room.{front}
use Rattle.page.proofs.PageColumns.{line-parts}
use Rattle.page.proofs.line.write_line.Goals as goal

pub returns : goal.returns
returns c =
    let a = c.args in
    let head = c.put_head-head.ensures.put in
    let columns = c.put_requests-end.ensures.put in
    let end = c.put_byte.ensures in
    front (rw (line-parts a.book.bytes.now a.state a.depth) at (then head (then columns end))) (omega (arith, end.ends))
