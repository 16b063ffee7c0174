-- `rules::sets::rules_passing` meets its contract. The loop's invariant: the set has those of the first k rules.
use Rattle.std.proofs.Common.{◌≡◌, ap, ◌∙◌, arith}
use Rattle.definitions.specs.Policy.{rules, rule}
use Rattle.rules.proofs.RuleSets.{passing-next}
use Rattle.rules.proofs.sets.rules_passing.Goals as goal

pub loop-k-preserved : goal.loop-k-preserved
loop-k-preserved g c = λ test answers.
    passing-next (λ k. test (rule c.args.policy.now k)) c.loop-k.k c.loop-k.set c.passes.result c.with_passing-set.result (c.loop-k.invariant test answers)
    (answers c.rule.result c.passes.result c.passes.ensures ∙ ap test c.rule.ensures.0) c.with_passing-set.ensures

pub returns : goal.returns
returns g c = λ test answers.
    let e : c.loop-k.k ≡ rules c.args.policy.now = omega arith in
    rw (← e) (c.loop-k.invariant test answers)
