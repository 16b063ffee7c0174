use Rattle.std.proofs.Common.{◌*◌}
use Rattle.rules.specs.Arrays.{Tabled}
use Rattle.images.specs.Images.{image_entry}
use Rattle.images.proofs.PreparedPolicy.fill_rows.Given as goal

abbrev pub invariant-loop-v : goal.invariant-loop-v
invariant-loop-v l = Tabled (l.v * l.w) (image_entry l.self.policy.now) l.images
