-- `put_steps` meets its contract: the lines of the first steps are put, each in at most 512 bytes.
use Rattle.std.proofs.Common.{arith}
use Rattle.play.proofs.StateLines.{line_of}
use Rattle.play.proofs.StepLines.{more}
use Rattle.play.proofs.steps.put_steps.Goals as goal

pub loop-code-preserved : goal.loop-code-preserved
loop-code-preserved c =
    let put = c.put_answer-next.ensures in
    more c.args.book.now c.args.start c.args.codes.now c.args.out.now c.args.at c.loop-code.invariant c.from.result _ c.loop-code-test.true c.from.ensures (grind arith) (grind (arith, line_of)) put.0 put.1
