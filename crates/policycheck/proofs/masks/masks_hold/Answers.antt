-- `masks_hold` meets its contract.
use Rattle.std.proofs.Common.{rules, tests}
use Rattle.definitions.specs.Policy.{rules as rule_count}
use Rattle.definitions.specs.Refusal.{rule_passes, rule_masks_hold}
use Rattle.policycheck.proofs.AllBelow.{all_below-range}
use Rattle.policycheck.proofs.masks.masks_hold.Goals as goal

pub returns : goal.returns
returns c =
    let p = c.args.policy.now in
    all_below-range (rule_passes p (rule_masks_hold p)) (rule_count p) c.all.ensures.ran c.rules.ensures.0 (λ x b q k. search (rules, tests))
