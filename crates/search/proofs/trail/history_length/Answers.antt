-- `history_length` meets its contract: n codes lead from place k to place i.
use native.Mathlib.Omega.{arith}
use Rattle.search.proofs.Trails.{counted-few, counted-turn, counted-done, parent-low}
use Rattle.search.proofs.trail.history_length.Goals as goal

pub overflow_add-n : goal.overflow_add-n
overflow_add-n c = omega (arith, counted-few _ _ c.requires.earlier_parents _ _ c.loop-k.invariant)

pub loop-k-smaller : goal.loop-k-smaller
loop-k-smaller c = parent-low c.args.trail.now _ c.requires.earlier_parents _ _ c.from-k.ensures c.loop-k-test.true c.loop-k.invariant.low

pub loop-k-preserved : goal.loop-k-preserved
loop-k-preserved c = counted-turn _ _ c.requires.earlier_parents _ _ c.loop-k.invariant c.loop-k-test.true _ c.from-k.ensures

pub returns : goal.returns
returns c = counted-done _ _ c.requires.earlier_parents _ _ c.loop-k.invariant (omega arith)
