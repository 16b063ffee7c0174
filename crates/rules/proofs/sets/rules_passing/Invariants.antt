use Rattle.std.proofs.Common.{◌≡◌, ℕ, Bool, List}
use Rattle.definitions.specs.Policy.{rule}
use Rattle.rules.specs.RuleSets.{passing}
use Rattle.rules.proofs.sets.rules_passing.Given as goal

abbrev pub invariant-loop-k : goal.invariant-loop-k
invariant-loop-k g l =
    (test : List ℕ → Bool)
    → ((q answer : _) → goal.F-post g l.passes q answer → answer ≡ test q.now)
    → l.set ≡ passing l.k (λ k. test (rule l.policy k))
