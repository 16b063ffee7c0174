-- `put_requests` meets its contract: blanks, and over them the letters of the state's row.
use mathlib.Core.Path.{ap, ◌∙◌}
use Prim.Native.Nat.{◌≤◌}
use native.Mathlib.Omega.{arith}
use lib.ListN.{drop}
use Rattle.automaton.proofs.Below.{length-list-below}
use Rattle.automaton.proofs.Loops.{part_is-drop}
use Rattle.page.proofs.PageColumns.{put-over, columns_all}
use Rattle.page.proofs.line.put_requests.Goals as goal

pub returns : goal.returns
returns c =
    let book = c.args.book in
    let few : book.requests ≤ 64 = omega (arith, book.passed.layout.header.requests_most, book.requests_are) in
    let events = c.events-first in
    let blanks = c.put_blanks-end.ensures in
    let letters = c.put_letters.ensures in
    let part = part_is-drop events.result c.row-row.result.now ∙ ap (λ row. drop events.result row) c.row-row.ensures ∙ rw events.ensures in
    let columns = columns_all book.bytes.now c.args.state _ part c.requires.state_is.0 book.requests book.requests_are few in
    record { put = rw columns at (put-over 64 book.requests blanks.put letters.put (length-list-below _ book.requests) few); value = blanks.value }
