-- `explore_book` meets its contract: the rows of the book are a table with the book's machine.
use Rattle.search.proofs.TableRows.{part-rows, part_count, part_states_law}
use Rattle.search.proofs.arrays.explore_book.Goals as goal

pub explore-requires : goal.explore-requires
explore-requires c =
    let p = c.requires in
    (part-rows _ p.0 _ p.1, rw (part_count _ p.0 _ p.1) p.2)

pub returns : goal.returns
returns c =
    let p = c.requires in
    rw (part_states_law _ p.0 _ p.1) at c.explore.ensures
