-- `possible_by_rows` meets its contract: in the rows passed so far every event leads to a state.
use Rattle.std.proofs.Common.{◌≡◌, ◌+◌, ◌*◌, ◌∙◌, arith}
use Rattle.automaton.specs.Below.{all_below}
use Rattle.automaton.proofs.Loops.{all-fails}
use Rattle.definitions.specs.Book.{states}
use Rattle.definitions.proofs.Tests.{failed}
use Rattle.bookcheck.specs.Entries.{is_possible, row_possible}
use Rattle.bookcheck.proofs.possible_by_rows.Goals.{After-all_possible}
use Rattle.bookcheck.proofs.possible_by_rows.Goals as goal

-- what was asked of row i
row_is : (c : After-all_possible)
    → row_possible c.args.layout.bytes.now c.loop-i.i
    ≡ all_below c.events-e.result (is_possible c.args.layout.bytes.now (12 + c.loop-i.i * c.args.layout.width))
row_is c = rw (c.events-e.ensures, c.args.layout.width_is)

pub returns-then-not-all_possible : goal.returns-then-not-all_possible
returns-then-not-all_possible c =
    let b = c.args.layout.bytes.now in
    all-fails (row_possible b) (states b) c.loop-i.i (omega arith) (row_is (goal.at.returns-then-not-all_possible c).After-all_possible ∙ failed _ _ c.all_possible.ensures c.if-not-all_possible.true)
