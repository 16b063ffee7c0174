-- `rules::effects::enabled` meets its contract. The loop's invariant: the tests of every variable before j pass.
use Rattle.std.proofs.Common.{arith, sym, ◌∙◌}
use Rattle.automaton.proofs.Below.{all_below_law}
use Rattle.automaton.proofs.Loops.{all-fails}
use Rattle.definitions.specs.Policy.{variables}
use Rattle.rules.specs.Arrays.{entry_of}
use Rattle.rules.specs.RuleSets.{test_passes_by}
use Rattle.rules.proofs.effects.enabled.Goals as goal

pub returns-then-not-test_passes : goal.returns-then-not-test_passes
returns-then-not-test_passes c =
    let a = c.args in
    all-fails (test_passes_by a.policy.now a.rule.now (entry_of a.values.now)) (variables a.policy.now) c.loop-j.j (omega arith)
    (sym c.test_passes.ensures ∙ c.if-not-test_passes.true)

pub returns : goal.returns
returns c =
    let a = c.args in
    sym (all_below_law (test_passes_by a.policy.now a.rule.now (entry_of a.values.now)) (variables a.policy.now) (λ i l. c.loop-j.invariant i (omega arith)))
