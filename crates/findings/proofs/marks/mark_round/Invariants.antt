use Rattle.findings.proofs.MarkRounds.{Round}
use Rattle.findings.proofs.marks.mark_round.Given as goal

abbrev pub invariant-loop-s : goal.invariant-loop-s
invariant-loop-s l = Round l.book.bytes.now l.initial.marks l.marks l.gained l.s
