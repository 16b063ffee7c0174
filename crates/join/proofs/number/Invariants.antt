use Rattle.join.proofs.Numbers.{NumberedBelow}
use Rattle.join.proofs.number.Given as goal

abbrev pub invariant-loop-s : goal.invariant-loop-s
invariant-loop-s l = NumberedBelow l.initial.numbers l.numbers l.order l.count l.s
