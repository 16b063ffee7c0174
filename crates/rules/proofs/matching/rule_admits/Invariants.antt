use Rattle.std.proofs.Common.{◌≡◌, ℕ, ◌<◌, true}
use Rattle.rules.specs.Arrays.{entry_of}
use Rattle.rules.specs.RuleSets.{mask_admits}
use Rattle.rules.proofs.matching.rule_admits.Given as goal

abbrev pub invariant-loop-f : goal.invariant-loop-f
invariant-loop-f l = (i : ℕ) → i < l.f → mask_admits l.rule (entry_of l.values) i ≡ true
