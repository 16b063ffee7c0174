use Rattle.findings.specs.Marks.{marked_successor}
use Rattle.findings.proofs.LowestBelow.{NoneBelow}
use Rattle.findings.proofs.marks.has_marked_successor.Given as goal

abbrev pub invariant-loop-c : goal.invariant-loop-c
invariant-loop-c l = NoneBelow (marked_successor l.book.bytes.now l.marks l.state) l.c
