use Rattle.page.specs.Depths.{DepthsNoted}
use Rattle.page.proofs.depths.note_depths.Given as goal

abbrev pub invariant-loop-k : goal.invariant-loop-k
invariant-loop-k l = DepthsNoted l.order l.trail l.n l.k l.depths
