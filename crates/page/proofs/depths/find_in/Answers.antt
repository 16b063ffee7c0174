-- `find_in` meets its contract: the depths of all states that the search finds.
use mathlib.Core.Path.{ap}
use Prim.Native.Nat.{ℕ, ◌<◌}
use native.Mathlib.Omega.{arith}
use lib.ListN.{length, length-replicate}
use Rattle.definitions.specs.Book.{states}
use Rattle.search.proofs.BookSearch.{book-some}
use Rattle.page.proofs.NotedDepths.{book_places, nothing_noted, book_depths}
use Rattle.page.proofs.depths.find_in.Goals as goal

pub note_depths-requires : goal.note_depths-requires
note_depths-requires g c =
    let ok = c.args.book.passed in
    let A = c.explore_book-n.ensures in
    let enough : states c.args.book.bytes.now < length c.explore_book-n.new.numbers =
    omega (arith, c.requires.room, c.explore_book-n.auto.numbers, ap length c.requires.zeros, length-replicate {A = ℕ} g.row.N 0) in
    (book_places _ A ok enough, book-some _ A.holds ok, nothing_noted _ A ok enough)

pub returns : goal.returns
returns g c =
    book_depths _ c.explore_book-n.ensures.holds _ c.note_depths.ensures
    (omega (arith, c.requires.room, c.explore_book-n.auto.numbers, c.note_depths.auto.depths, ap length c.requires.zeros, length-replicate {A = ℕ} g.row.N 0))
