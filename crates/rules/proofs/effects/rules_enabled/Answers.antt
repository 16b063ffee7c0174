-- `rules::effects::rules_enabled` meets its contract: the closure tests a rule by `enabled`.
use Rattle.std.proofs.Common.{List, ℕ, rules}
use Rattle.rules.specs.Arrays.{entry_of}
use Rattle.rules.specs.RuleSets.{enabled_by}
use Rattle.rules.proofs.effects.rules_enabled.Goals as goal

pub returns : goal.returns
returns c =
    let a = c.args in
    c.rules_passing.ensures (λ (q : List ℕ). enabled_by a.policy.now q (entry_of a.values.now)) (λ q answer met. search rules)
