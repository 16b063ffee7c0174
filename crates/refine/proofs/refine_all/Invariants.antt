use Rattle.refine.proofs.Refinement.{AfterRounds, rounds_left}
use Rattle.refine.proofs.refine_all.Given as goal

abbrev pub invariant-loop-moved : goal.invariant-loop-moved
invariant-loop-moved l = AfterRounds l.table.rows.now l.table.width l.leads l.initial.classes l.classes l.next l.moved

abbrev pub decreases-loop-moved : goal.decreases-loop-moved
decreases-loop-moved l = rounds_left l.classes l.moved
