use Rattle.way.proofs.VisitTurns.{VisitTurn}
use Rattle.way.proofs.first.visit_for.Given as goal

abbrev pub invariant-loop-code : goal.invariant-loop-code
invariant-loop-code g l = VisitTurn l.goal l.initial.search l.place l.code l.search
