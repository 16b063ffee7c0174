use Rattle.std.proofs.Common.{◌≡◌, ℕ, ◌<◌, get_or}
use Rattle.rules.specs.Arrays.{entry_of}
use Rattle.images.specs.Images.{rule_target}
use Rattle.images.proofs.PreparedPolicy.fill_targets.Given as goal

abbrev pub invariant-loop-k : goal.invariant-loop-k
invariant-loop-k l = (i : ℕ) → i < l.k → get_or l.targets i 0 ≡ rule_target l.self.policy.now (entry_of l.values) i
