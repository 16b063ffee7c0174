-- `explore` meets its contract: the start has its hint.
use Rattle.explore.proofs.Hints.{one-hint}
use Rattle.explore.proofs.explore.Goals as goal

pub explore_in-requires-clause-start_is_hinted : goal.explore_in-requires-clause-start_is_hinted
explore_in-requires-clause-start_is_hinted c = (c.requires.state, (one-hint c.args.start.set).1)
