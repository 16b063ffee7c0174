-- Where rules and events lead: equal values of the variables lead to equal valuations.
use mathlib.Core.Path.{◌≡◌, refl, ap}
use mathlib.Core.List.{List}
use Prim.Native.Nat.{ℕ, ◌<◌}
use Rattle.definitions.specs.Policy.{variables, rule, change, event_change}
use Rattle.definitions.specs.Situation.{empty_set, insert}
use Rattle.images.specs.Images.{rule_target, event_from}
use Rattle.rules.proofs.Changes.{carried_same}

module _ (p : List ℕ) (x y : ℕ → ℕ) (same : (j : ℕ) → j < variables p → x j ≡ y j) where
  pub rule_target-same : (k : ℕ) → rule_target p x k ≡ rule_target p y k
  rule_target-same k = carried_same p (change p (rule p k)) (change p (rule p k)) x y (λ j l. refl) same

  pub event_from-same : (e : ℕ) → event_from p x e ≡ event_from p y e
  event_from-same e = ap (λ (u : ℕ). insert u empty_set) (carried_same p (event_change p e) (event_change p e) x y (λ j l. refl) same)
