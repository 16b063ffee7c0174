-- `write_codes` meets its contract: the codes from place j of the buffer on are written, those that lead to place k are to come.
use native.Mathlib.Omega.{arith}
use Rattle.search.proofs.Trails.{writing-some, writing-few, writing-turn, writing-done, parent-low}
use Rattle.search.proofs.trail.write_codes.Goals as goal

pub overflow_sub-j : goal.overflow_sub-j
overflow_sub-j c = writing-some _ _ c.requires.earlier_parents _ _ _ _ c.loop-k.invariant c.loop-k-test.true

pub bounds-buffer-j : goal.bounds-buffer-j
bounds-buffer-j c =
    let falls = c.requires.earlier_parents in
    omega (arith, writing-some _ _ falls _ _ _ _ c.loop-k.invariant c.loop-k-test.true, writing-few _ _ falls _ _ _ _ c.loop-k.invariant c.requires.room.0)

pub loop-k-smaller : goal.loop-k-smaller
loop-k-smaller c =
    parent-low c.args.trail.now _ c.requires.earlier_parents _ _ c.from-k.ensures c.loop-k-test.true c.loop-k.invariant.low

pub loop-k-preserved : goal.loop-k-preserved
loop-k-preserved c =
    let pre = c.requires in
    writing-turn _ _ pre.earlier_parents _ _ _ _ c.loop-k.invariant c.loop-k-test.true pre.room.0 _ c.from-k.ensures

pub returns : goal.returns
returns c = writing-done _ _ c.requires.earlier_parents _ _ _ _ c.loop-k.invariant (omega arith)
