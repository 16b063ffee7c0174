-- `show` meets its contract: the start is a goal, or a search finds where it is.
use Rattle.way.proofs.ShownWays.{shows-start}
use Rattle.way.proofs.show.Goals as goal

pub returns-then-is_met_at : goal.returns-then-is_met_at
returns-then-is_met_at c = shows-start c.args.goal c.if-is_met_at.ensures c.args.history.now
