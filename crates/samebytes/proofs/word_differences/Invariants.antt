use mathlib.Core.Path.{◌≡◌}
use mathlib.Core.Logic.{◌↔◌}
use Prim.Native.Nat.{◌*◌}
use Rattle.bytewords.specs.ByteWords.{SamePart}
use Rattle.samebytes.proofs.word_differences.Given as goal

abbrev pub invariant-loop-n : goal.invariant-loop-n
invariant-loop-n l = (l.gathered ≡ 0) ↔ SamePart (8 * l.n) l.first l.k l.second l.k
