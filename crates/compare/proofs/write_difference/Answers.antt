-- `write_difference` meets its contract.
use native.Mathlib.Omega.{arith}
use Rattle.compare.proofs.ComparedAnswer.{difference-written}
use Rattle.search.proofs.Trails.{history-short}
use Rattle.compare.proofs.write_difference.Goals as goal

pub bounds-history-before : goal.bounds-history-before
bounds-history-before c =
    omega (arith, c.write_history-before.ensures.value, history-short c.args.trail.now _ c.requires.0.falls, c.requires)

pub returns : goal.returns
returns c =
    let w = c.write_history-before.ensures in
    let all = difference-written _ _ _ _ _ _ c.requires.0 c.requires.1 w.value w.buffer_after in
    record { value = all.0; history = all.1 }
