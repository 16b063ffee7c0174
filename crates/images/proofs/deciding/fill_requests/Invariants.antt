use Rattle.std.proofs.Common.{◌≡◌, ℕ, ◌*◌, ◌<◌, get_or}
use Rattle.images.specs.Choice.{chosen_for}
use Rattle.images.proofs.deciding.fill_requests.Given as goal

abbrev pub invariant-loop-r : goal.invariant-loop-r
invariant-loop-r l = (i : ℕ) → i < 2 * l.r → get_or l.row i 0 ≡ chosen_for l.sets l.enabled l.ranks l.targets i
