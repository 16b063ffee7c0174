use Rattle.findings.specs.Marks.{unmarked_at}
use Rattle.findings.proofs.LowestBelow.{NoneBelow}
use Rattle.findings.proofs.finding.first_unmarked.Given as goal

abbrev pub invariant-loop-i : goal.invariant-loop-i
invariant-loop-i l = NoneBelow (unmarked_at l.marks l.search.order) l.i
