-- `find_blocked` meets its contract: where every request is answered no state is blocked; and the marks are a fixed point, so the first state that is not marked is the first that is blocked.
use mathlib.Core.Path.{ap, ◌∙◌}
use mathlib.Core.Bool.{not}
use native.Mathlib.Omega.{arith}
use Rattle.search.proofs.BookSearch.{book-inside}
use Rattle.search.proofs.Found.{holds_of}
use Rattle.findings.proofs.BlockedStates.{tells-answered, tells_none, tells-blocked}
use Rattle.findings.proofs.finding.find_blocked.Goals as goal

pub returns-then-is_none : goal.returns-then-is_none
returns-then-is_none c =
    let all = tells-answered _ c.args.book.passed (holds_of c.args.search.now c.requires.found) (c.requires.missing (c.is_none.ensures ∙ ap not c.if-is_none.true)) c.args.buffer.now in
    record { answer = all.0; buffer_after = all.1 }

pub first_unmarked-requires : goal.first_unmarked-requires
first_unmarked-requires c =
    let book = c.args.book.passed in
    let H = holds_of c.args.search.now c.requires.found in
    λ k l. omega (arith, book-inside _ H book k l, book.layout.header.states_most, c.mark.ensures.0.room)

pub returns-in_err-i : goal.returns-in_err-i
returns-in_err-i c =
    let m = c.mark.ensures in
    let all = tells_none _ c.args.book.passed (holds_of c.args.search.now c.requires.found) m.0 m.1 c.in_err-i.ensures c.args.buffer.now in
    record { answer = rw c.from_residual.ensures all.0; buffer_after = all.1 }

pub returns : goal.returns
returns c =
    let m = c.mark.ensures in
    let e = c.write_history.ensures in
    let all = tells-blocked _ c.args.book.passed (holds_of c.args.search.now c.requires.found) m.0 m.1 _ _ c.args.buffer.now _ c.in_ok-i.ensures e.value e.buffer_after in
    record { answer = all.0; buffer_after = all.1 }
