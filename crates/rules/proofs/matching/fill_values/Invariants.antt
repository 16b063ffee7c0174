use Rattle.rules.proofs.Values.{Taken}
use Rattle.rules.proofs.matching.fill_values.Given as goal

abbrev pub invariant-loop-f : goal.invariant-loop-f
invariant-loop-f l = Taken l.policy l.r l.values l.rest l.f
