use Rattle.definitions.specs.Valuation.{values_of}
use Rattle.definitions.proofs.Products.{Multiplied}
use Rattle.policy.proofs.valuation.valuations.Given as goal

abbrev pub invariant-loop-j : goal.invariant-loop-j
invariant-loop-j l = Multiplied (values_of l.policy) l.j l.product
