-- `rules::matching::rules_admitting` meets its contract: the closure tests a rule by `rule_admits`.
use Rattle.std.proofs.Common.{List, ℕ, rules}
use Rattle.rules.specs.Arrays.{entry_of}
use Rattle.rules.specs.RuleSets.{admits}
use Rattle.rules.proofs.matching.rules_admitting.Goals as goal

pub returns : goal.returns
returns c =
    let a = c.args in
    c.rules_passing.ensures (λ (q : List ℕ). admits a.policy.now q (entry_of a.values.now)) (λ q answer met. search rules)
