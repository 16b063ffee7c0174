-- `explore` meets its contract: the arrays are begun, and the states visited one after another.
use lib.ListN.{length-set}
use Rattle.search.proofs.SearchTurns.{arrays_begun}
use Rattle.search.proofs.arrays.explore.Goals as goal

pub visit_all-requires : goal.visit_all-requires
visit_all-requires c =
    let E = c.requires.1 in
    let b = c.begin.ensures in
    record {
      small_table = (c.requires.0, rw b.1 (simp length-set E.enough));
      begun = rw (b.0, b.1) (arrays_begun _ _ _ _ c.requires.0.table.some E);
    }
