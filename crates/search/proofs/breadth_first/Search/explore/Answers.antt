-- `explore` meets its contract: its arrays are as `visit_all` leaves them.
use native.Mathlib.Omega.{arith}
use Rattle.search.proofs.Found.{arrays_started, numbered_of, holds-length}
use Rattle.search.proofs.TableRows.{states-few}
use Rattle.search.proofs.breadth_first.Search.explore.Goals as goal

pub visit_all-self-requires-clause-begun : goal.visit_all-self-requires-clause-begun
visit_all-self-requires-clause-begun g c = arrays_started c.args.self.now c.requires.begun

pub invariant_of-self-clause-within : goal.invariant_of-self-clause-within
invariant_of-self-clause-within g c = omega (arith, states-few _ _ c.requires.small_table.0, c.requires.small_table.1, holds-length c.visit_all-self.ensures.holds)

pub invariant_of-self-clause-numbered : goal.invariant_of-self-clause-numbered
invariant_of-self-clause-numbered g c t l = numbered_of c.visit_all-self.ensures t (omega (arith, l, c.visit_all-self.auto.numbers, c.args.self.now.lengths))
