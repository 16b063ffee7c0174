use Rattle.findings.specs.SoughtRequests.{some_at}
use Rattle.findings.proofs.LowestBelow.{NoneBelow}
use Rattle.findings.proofs.finding.first_with.Given as goal

abbrev pub invariant-loop-place : goal.invariant-loop-place
invariant-loop-place l = NoneBelow (some_at l.sought l.book.bytes.now l.search.order) l.place
