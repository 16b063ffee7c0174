use Rattle.std.proofs.Common.{◌≡◌, ℕ, ◌<◌, get_or}
use Rattle.rules.specs.RuleSets.{matching}
use Rattle.rules.proofs.matching.fill_matching.Given as goal

abbrev pub invariant-loop-r : goal.invariant-loop-r
invariant-loop-r l = (i : ℕ) → i < l.r → get_or l.sets i 0 ≡ matching l.policy i
