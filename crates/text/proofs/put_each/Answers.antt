-- `put_each` meets its contract: the texts of the first bytes are put.
use native.Mathlib.Omega.{arith}
use Rattle.text.proofs.Each.{each_turn}
use Rattle.text.proofs.put_each.Goals as goal

pub loop-byte-preserved : goal.loop-byte-preserved
loop-byte-preserved g c =
    let l = c.loop-byte in
    let p = c.put_text-next in
    let puts = c.requires.1.1.0 in
    each_turn l.invariant c.loop-byte-test.true (puts _ _ _ _ _ (omega (arith, c.type_inv.bytes l.byte-index)) p.ensures)
