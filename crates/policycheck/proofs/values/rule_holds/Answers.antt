-- `rule_holds` meets its contract.
use Rattle.std.proofs.Common.{rules, tests, arith}
use borrow.Author.Tests.{le-leb}
use Rattle.definitions.specs.Policy.{variables, decision}
use Rattle.definitions.specs.Refusal.{test_holds}
use Rattle.policycheck.proofs.AllBelow.{all_below-range}
use Rattle.policycheck.proofs.values.rule_holds.Goals as goal

pub returns-then-decision-le1 : goal.returns-then-decision-le1
returns-then-decision-le1 c =
    let p = c.args.policy.now in
    let q = c.args.rule.now in
    rw (le-leb (decision p q) 1 (omega arith))
    (all_below-range (test_holds p q) (variables p) c.all.ensures.ran c.variables.ensures.0 (λ x b q k. search (rules, tests)))
