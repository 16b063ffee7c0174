-- `step_all` meets its contract: the row has the images of the valuations passed so far.
use Rattle.explore.proofs.SetRows.{replicate-sets, images_more}
use Rattle.explore.specs.SetImages.{empty_sets, with_images}
use mathlib.Core.List.{List}
use Prim.Native.Nat.{ℕ}
use mathlib.Core.Path.{ap, ◌∙◌}
use Rattle.explore.proofs.Images.step_all.Goals as goal

pub loop-v-init : goal.loop-v-init
loop-v-init c = c.fill.ensures.after (λ _ e. e) ∙ replicate-sets _ ∙ ap empty_sets c.requires

pub loop-v-preserved : goal.loop-v-preserved
loop-v-preserved c =
    let a = c.args in
    c.add_images.ensures ∙ ap (λ (sets : List ℕ). with_images a.self.sets.now a.self.width a.situation.set c.loop-v.v sets) c.loop-v.invariant
    ∙ images_more a.self.sets.now a.self.width a.situation.set c.loop-v.v
