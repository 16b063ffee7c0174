use Prim.Native.Nat.{◌-◌}
use lib.ListN.{length}
use Rattle.samebytes.specs.SameBytes.{SameSoFar}
use Rattle.samebytes.proofs.same_words.Given as goal

abbrev pub invariant-loop-k : goal.invariant-loop-k
invariant-loop-k l = SameSoFar l.first l.second l.k

abbrev pub decreases-loop-k : goal.decreases-loop-k
decreases-loop-k l = length l.first - l.k
