use Rattle.findings.specs.SoughtRequests.{test_of}
use Rattle.findings.proofs.LowestBelow.{NoneBelow}
use Rattle.findings.proofs.requests.lowest.Given as goal

abbrev pub invariant-loop-r : goal.invariant-loop-r
invariant-loop-r l = NoneBelow (test_of l.sought l.book.bytes.now l.state) l.r
