-- `byte_differences` meets its contract: what is gathered after n bytes is 0 exactly when these are equal.
use Prim.Native.Nat.{◌+◌}
use Rattle.bytewords.proofs.ByteWords.{part_of_one, gathered_more}
use Rattle.samebytes.proofs.byte_differences.Goals as goal

pub loop-n-preserved : goal.loop-n-preserved
loop-n-preserved c =
    let a = c.args in
    let l = c.loop-n in
    let equal = part_of_one a.first.now a.second.now (a.k + l.n) (a.k + l.n) in
    gathered_more a.first.now a.second.now a.k a.k 1 l.n _ _ l.gathered l.invariant equal
