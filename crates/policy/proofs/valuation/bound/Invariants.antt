use mathlib.Core.Path.{◌≡◌}
use Prim.Native.Nat.{◌<◌}
use Rattle.automaton.specs.Below.{fold_below}
use Rattle.definitions.specs.Valuation.{greatest_tested}
use Rattle.policy.proofs.valuation.bound.Given as goal

abbrev pub invariant-loop-k : goal.invariant-loop-k
invariant-loop-k l = (l.most ≡ fold_below l.k 0 (greatest_tested l.policy l.j)) × (l.most < 256)
