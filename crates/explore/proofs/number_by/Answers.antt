-- `number_by` meets its contract: the number is one more than the index.
use mathlib.Core.Path.{sym, ◌∙◌}
use Rattle.explore.proofs.StatePlaces.{place_here, place-nowhere}
use Rattle.explore.proofs.number_by.Goals as goal

pub returns-in_err-index : goal.returns-in_err-index
returns-in_err-index c = c.from_residual-in_err-index.ensures ∙ place-nowhere c.args.x.set c.args.found.now (sym c.index_of.ensures ∙ c.in_err-index.was)

pub returns : goal.returns
returns c = place_here c.args.x.set c.args.found.now c.in_ok-index.index (sym c.index_of.ensures ∙ c.in_ok-index.was)
