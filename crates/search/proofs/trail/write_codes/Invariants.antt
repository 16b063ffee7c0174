use Rattle.search.proofs.Trails.{Writing}
use Rattle.search.proofs.trail.write_codes.Given as goal

abbrev pub invariant-loop-k : goal.invariant-loop-k
invariant-loop-k l = Writing l.trail l.i l.initial.buffer l.k l.j l.buffer

abbrev pub decreases-loop-k : goal.decreases-loop-k
decreases-loop-k l = l.k
