-- `tell` meets its contract: the ways out that refuse the call. What is told the check finds by `tell_is`.
use Rattle.std.proofs.Common.{◌≤◌, arith}
use Rattle.std.proofs.lemmas.Result.{err_from_is_err_and}
use mathlib.Core.Bool.{and-false}
use borrow.Author.Tests.{le-ltb}
use Rattle.definitions.specs.Book.{requests}
use Rattle.refusal.proofs.Refused.{some_number}
use Rattle.walk.proofs.CallCases.{state-passes, tell-err, tell-outside}
use Rattle.walk.proofs.tell.Goals as goal

pub returns-in_err-book : goal.returns-in_err-book
returns-in_err-book c =
    let p = err_from_is_err_and c.from_residual.result c.from_residual.ensures.1 in
    rw (p.1, p.2) (tell-err c.args.bytes.now c.args.state c.args.request _ (some_number c.in_err-book.field-0.0) c.in_err-book.ensures.refusal)

pub returns-then-request-book : goal.returns-then-request-book
returns-then-request-book c =
    let a = c.args in
    let h = c.in_ok-book.ensures in
    let e = rw h.book.0 at c.in_ok-book.book.requests_are in
    let beyond : requests a.bytes.now ≤ a.request = omega (arith, e, c.if-request-book.true) in
    tell-outside a.bytes.now a.state a.request (state-passes a.bytes.now a.state h.refusal) (simp (le-ltb a.request (requests a.bytes.now) beyond, and-false))
