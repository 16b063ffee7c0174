-- `rule_masks_hold` meets its contract.
use Rattle.std.proofs.Common.{rules, tests}
use Rattle.definitions.specs.Policy.{fields}
use Rattle.definitions.specs.Refusal.{mask_holds}
use Rattle.policycheck.proofs.AllBelow.{all_below-range}
use Rattle.policycheck.proofs.masks.rule_masks_hold.Goals as goal

pub returns : goal.returns
returns c =
    let p = c.args.policy.now in
    all_below-range (mask_holds p c.args.rule.now) (fields p) c.all.ensures.ran c.fields.ensures.0 (λ x b q k. search (rules, tests))
