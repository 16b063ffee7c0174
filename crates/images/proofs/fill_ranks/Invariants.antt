use Rattle.std.proofs.Common.{◌≡◌, ℕ, ◌<◌, get_or}
use Rattle.images.specs.Choice.{unranked}
use Rattle.images.specs.Images.{rule_rank}
use Rattle.images.proofs.fill_ranks.Given as goal

abbrev pub invariant-loop-k : goal.invariant-loop-k
invariant-loop-k l = (i : ℕ) → i < l.k → get_or l.ranks i unranked ≡ rule_rank l.policy i
