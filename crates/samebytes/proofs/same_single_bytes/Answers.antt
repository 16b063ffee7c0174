-- `same_single_bytes` meets its contract: the bytes passed so far are equal.
use native.Mathlib.Omega.{arith}
use Rattle.bytewords.proofs.ByteWords.{part_of_one}
use Rattle.samebytes.proofs.SameBytes.{part_differs, all_read}
use Rattle.samebytes.proofs.same_single_bytes.Goals as goal

pub returns-then-first-k : goal.returns-then-first-k
returns-then-first-k c =
    let a = c.args in
    let k = c.loop-k.k in
    part_differs a.first.now a.second.now 1 k (λ same. c.if-first-k.true ((part_of_one a.first.now a.second.now k k).1 same))

pub returns : goal.returns
returns c =
    let a = c.args in
    let l = c.loop-k in
    all_read a.first.now a.second.now l.k l.invariant (omega arith)
