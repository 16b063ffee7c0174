-- `mark_round` meets its contract: the states below s have been looked at.
use native.Mathlib.Omega.{arith}
use Rattle.findings.proofs.MarkRounds.{round_turn}
use Rattle.findings.proofs.marks.mark_round.Goals as goal

pub loop-s-preserved : goal.loop-s-preserved
loop-s-preserved c =
    let e = c.mark_before-gained.ensures in
    round_turn _ c.args.book.passed _ _ _ _ c.loop-s.invariant (omega (arith, c.loop-s-test.true, c.states-s-end.ensures)) _ _ e.value e.marks_after

pub returns-2-clause-marks : goal.returns-2-clause-marks
returns-2-clause-marks c =
    let e = c.mark_before-gained.ensures in
    let turn = round_turn _ c.args.book.passed _ _ _ _ c.loop-s.invariant (omega (arith, c.loop-s-test.true, c.states-s-end.ensures)) _ _ e.value e.marks_after in
    (turn.are, turn.count)
