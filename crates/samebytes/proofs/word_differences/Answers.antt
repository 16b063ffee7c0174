-- `word_differences` meets its contract: what is gathered after n words is 0 exactly when these are equal.
use mathlib.Core.Path.{◌≡◌}
use Prim.Native.Nat.{◌+◌, ◌*◌}
use native.Mathlib.Omega.{arith}
use Rattle.bytewords.proofs.ByteWords.{words_read, gathered_more}
use Rattle.samebytes.proofs.word_differences.Goals as goal

pub loop-n-preserved : goal.loop-n-preserved
loop-n-preserved c =
    let a = c.args in
    let l = c.loop-n in
    let k = a.k + 8 * l.n in
    let next : 8 * (l.n + 1) ≡ 8 * l.n + 8 = omega arith in
    let words = words_read a.first.now a.second.now k k c.word.ensures c.word-in-loop-n.ensures in
    rw next (gathered_more a.first.now a.second.now a.k a.k 8 (8 * l.n) _ _ l.gathered l.invariant words)
