use Rattle.play.proofs.StepLines.{StepsPut}
use Rattle.play.proofs.steps.put_steps.Given as goal

abbrev pub invariant-loop-code : goal.invariant-loop-code
invariant-loop-code l = StepsPut l.book l.start l.codes l.initial.out l.at l.code-index l.state l.next l.out
