-- `entries_hold` meets its contract: row 14 is its two tests.
use Rattle.std.proofs.Common.{◌-◌, ◌≤◌, ◌<◌, ◌∙◌, length, arith}
use Rattle.definitions.specs.Book.{states}
use Rattle.bookcheck.specs.Entries.{greatest}
use Rattle.bookcheck.proofs.Entries.{too_great, none_great}
use Rattle.bookcheck.proofs.entries_hold.Goals as goal

pub returns-then-n-from : goal.returns-then-n-from
returns-then-n-from c =
    let b = c.args.layout.bytes.now in
    let above : states b < greatest b (length b - 12) = omega (arith, c.greatest.ensures, c.states-n.ensures, c.from.ensures) in
    too_great b c.args.layout.laid_out above

pub returns : goal.returns
returns c =
    let b = c.args.layout.bytes.now in
    let few : greatest b (length b - 12) ≤ states b = omega (arith, c.greatest.ensures, c.states-n.ensures, c.from.ensures) in
    c.events_possible.ensures ∙ none_great b c.args.layout.laid_out few
