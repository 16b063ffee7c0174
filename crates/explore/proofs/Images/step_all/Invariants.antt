use Rattle.explore.specs.SetImages.{images_of_set}
use mathlib.Core.Path.{◌≡◌}
use Rattle.explore.proofs.Images.step_all.Given as goal

abbrev pub invariant-loop-v : goal.invariant-loop-v
invariant-loop-v l = l.next ≡ images_of_set l.self.sets.now l.v l.self.width l.situation.set
