-- `put_letters` meets its contract: the letters of the first r requests are put.
use mathlib.Core.Path.{refl}
use Rattle.page.proofs.PageColumns.{column-turn}
use Rattle.page.proofs.line.put_letters.Goals as goal

pub loop-r-init : goal.loop-r-init
loop-r-init c = record { stored = refl; ends = refl }

pub loop-r-preserved : goal.loop-r-preserved
loop-r-preserved c = column-turn _ _ _ c.loop-r.r _ c.letter.ensures c.loop-r.invariant
