use Rattle.samebytes.specs.SameBytes.{SameSoFar}
use Rattle.samebytes.proofs.same_single_bytes.Given as goal

abbrev pub invariant-loop-k : goal.invariant-loop-k
invariant-loop-k l = SameSoFar l.first l.second l.k
