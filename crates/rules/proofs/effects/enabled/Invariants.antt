use Rattle.std.proofs.Common.{◌≡◌, ℕ, ◌<◌, true}
use Rattle.rules.specs.Arrays.{entry_of}
use Rattle.rules.specs.RuleSets.{test_passes_by}
use Rattle.rules.proofs.effects.enabled.Given as goal

abbrev pub invariant-loop-j : goal.invariant-loop-j
invariant-loop-j l = (i : ℕ) → i < l.j → test_passes_by l.policy l.rule (entry_of l.values) i ≡ true
