-- `possible_by_columns` meets its contract: the columns are taken together for the rows passed so far.
use Rattle.std.proofs.Common.{◌≡◌, ℕ, ◌∙◌, ap, arith}
use Rattle.automaton.specs.Below.{all_below}
use Rattle.definitions.specs.Book.{states}
use Rattle.bookcheck.specs.Entries.{is_possible}
use Rattle.bookcheck.proofs.Columns.{columns_turn, columns_done}
use Rattle.bookcheck.proofs.possible_by_columns.Goals as goal

pub loop-i-preserved : goal.loop-i-preserved
loop-i-preserved c = columns_turn _ c.loop-i.invariant (rw c.args.layout.width_is at c.lower.ensures)

pub returns : goal.returns
returns c =
    let b = c.args.layout.bytes.now in
    let l = c.loop-i in
    let all : l.i ≡ states b = omega (arith, c.states-i-end.ensures) in
    c.all_possible.ensures
    ∙ ap (λ (k : ℕ). all_below k (is_possible l.least 0)) c.events.ensures
    ∙ columns_done b (rw all at l.invariant) c.args.layout.laid_out.header.events_most
