use mathlib.Core.Path.{◌≡◌}
use mathlib.Core.Logic.{◌↔◌}
use Rattle.bytewords.specs.ByteWords.{SamePart}
use Rattle.samebytes.proofs.byte_differences.Given as goal

abbrev pub invariant-loop-n : goal.invariant-loop-n
invariant-loop-n l = (l.gathered ≡ 0) ↔ SamePart l.n l.first l.k l.second l.k
