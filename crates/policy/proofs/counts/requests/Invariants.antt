use Rattle.definitions.specs.Policy.{count}
use Rattle.definitions.proofs.Products.{Multiplied}
use Rattle.policy.proofs.counts.requests.Given as goal

abbrev pub invariant-loop-f : goal.invariant-loop-f
invariant-loop-f l = Multiplied (count l.policy) l.f l.product
