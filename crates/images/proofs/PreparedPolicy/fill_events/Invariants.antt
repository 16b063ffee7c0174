use Rattle.std.proofs.Common.{◌≡◌, ℕ, ◌<◌, get_or}
use Rattle.rules.specs.Arrays.{entry_of}
use Rattle.images.specs.Images.{event_from}
use Rattle.images.proofs.PreparedPolicy.fill_events.Given as goal

abbrev pub invariant-loop-e : goal.invariant-loop-e
invariant-loop-e l = (i : ℕ) → i < l.e → get_or l.row i 0 ≡ event_from l.self.policy.now (entry_of l.values) i
