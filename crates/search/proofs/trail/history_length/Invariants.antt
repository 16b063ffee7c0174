use Rattle.search.proofs.Trails.{Counted}
use Rattle.search.proofs.trail.history_length.Given as goal

abbrev pub invariant-loop-k : goal.invariant-loop-k
invariant-loop-k l = Counted l.trail l.i l.k l.n

abbrev pub decreases-loop-k : goal.decreases-loop-k
decreases-loop-k l = l.k
