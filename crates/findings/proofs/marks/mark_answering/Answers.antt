-- `mark_answering` meets its contract: the states up to s are marked where they answer a request.
use native.Mathlib.Omega.{arith}
use Rattle.findings.proofs.MarkRounds.{answering_marks}
use Rattle.findings.proofs.marks.mark_answering.Goals as goal

pub returns-2 : goal.returns-2
returns-2 c =
    let few = c.args.book.passed.layout.header.states_most in
    answering_marks c.args.book.bytes.now c.loop-s.marks c.loop-s.s c.answers.result (omega arith)
    (omega (arith, few, c.states-s-end.ensures, c.loop-s-test.true)) (omega (arith, c.states-s-end.ensures, c.loop-s-test.true)) c.answers.ensures c.loop-s.invariant
