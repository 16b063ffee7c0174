-- `counts_in_range` meets its contract.
use Rattle.std.proofs.Common.{rules, tests}
use Rattle.definitions.specs.Policy.{fields}
use Rattle.definitions.specs.Refusal.{count_in_range}
use Rattle.policycheck.proofs.AllBelow.{all_below-range}
use Rattle.policycheck.proofs.counts.counts_in_range.Goals as goal

pub returns : goal.returns
returns c =
    let p = c.args.policy.now in
    all_below-range (count_in_range p) (fields p) c.all.ensures.ran c.fields.ensures.0 (λ x b q k. search (rules, tests))
