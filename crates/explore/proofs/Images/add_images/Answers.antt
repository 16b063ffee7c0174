-- `add_images` meets its contract: where the valuation is not there, nothing changes.
use Rattle.explore.proofs.SetRows.{images-out}
use mathlib.Core.Path.{sym, ◌∙◌}
use Rattle.explore.proofs.Images.add_images.Goals as goal

pub returns-else-has : goal.returns-else-has
returns-else-has c =
    let a = c.args in
    images-out a.self.sets.now a.self.width a.situation.set a.v a.next.now c.requires.1 (sym c.has.ensures ∙ c.if-has.false)
