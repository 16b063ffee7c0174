-- `new` meets its contract: state 1 is found, with no history.
use Rattle.search.proofs.SearchTurns.{new-found, new-numbered}
use Rattle.search.proofs.breadth_first.Search.new.Goals as goal

pub invariant_of-result-clause-numbered : goal.invariant_of-result-clause-numbered
invariant_of-result-clause-numbered g c = new-numbered g.row.N g.row.M c.requires.0 c.begin.ensures.0 c.begin.ensures.1

pub returns : goal.returns
returns g c = new-found g.row.N g.row.M c.requires.0 c.begin.ensures.0 c.begin.ensures.1
