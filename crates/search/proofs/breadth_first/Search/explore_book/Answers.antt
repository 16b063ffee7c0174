-- `explore_book` meets its contract: the rows of the book are a table with the book's machine.
use mathlib.Core.Path.{◌∙◌}
use native.Mathlib.Omega.{arith}
use borrow.Author.Rules.{rules}
use Rattle.search.proofs.TableRows.{part-rows, part_count, part_states_law}
use Rattle.search.proofs.breadth_first.Search.explore_book.Goals as goal

pub explore-requires : goal.explore-requires
explore-requires g c =
    let b = c.args.book in
    (search rules, ((part-rows _ b.passed _ b.width_is, omega (arith, part_count _ b.passed _ b.width_is, c.requires.room)), c.requires.begun))

pub returns : goal.returns
returns g c =
    let b = c.args.book in
    c.explore.ensures ∙ part_states_law _ b.passed _ b.width_is
