use Rattle.policy.proofs.ValuationSums.{Summed}
use Rattle.rules.specs.Arrays.{entry_of}
use Rattle.rules.specs.Changes.{change_at, changed_by}
use Rattle.rules.proofs.effects.carried_out.Given as goal

abbrev pub invariant-loop-j : goal.invariant-loop-j
invariant-loop-j l = Summed l.policy (changed_by l.policy (change_at l.part l.first l.step) (entry_of l.values)) l.j l.sum
