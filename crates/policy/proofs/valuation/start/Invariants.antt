use Rattle.definitions.specs.Valuation.{initial_value}
use Rattle.policy.proofs.ValuationSums.{Summed}
use Rattle.policy.proofs.valuation.start.Given as goal

abbrev pub invariant-loop-j : goal.invariant-loop-j
invariant-loop-j l = Summed l.policy (initial_value l.policy) l.j l.sum
