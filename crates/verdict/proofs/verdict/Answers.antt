-- `verdict` meets its contract: the rows are judged in their order.
use mathlib.Core.Path.{sym, ◌∙◌}
use native.Mathlib.Omega.{arith}
use Rattle.std.proofs.lemmas.Result.{err_from_is_err_and}
use Rattle.refusal.specs.Refused.{number_of}
use Rattle.refusal.proofs.Refused.{some_number}
use Rattle.verdict.proofs.VerdictAnswer.{short-conflict, short-missing, short-blocked, by-book, answer_refused, answer-given}
use Rattle.verdict.proofs.verdict.Goals as goal

pub returns-then-conflict-lt128 : goal.returns-then-conflict-lt128
returns-then-conflict-lt128 c =
    let all = answer_refused _ _ _ _ 1 (short-conflict _ _ _ _ c.if-conflict-lt128.true) (λ e. omega arith) in record { answer = all.0; buffers = all.1 }

pub returns-then-missing-lt128 : goal.returns-then-missing-lt128
returns-then-missing-lt128 c =
    let all = answer_refused _ _ _ _ 1 (short-missing _ _ _ _ c.if-conflict-lt128.false c.if-missing-lt128.true) (λ e. omega arith) in
    record { answer = all.0; buffers = all.1 }

pub returns-then-blocked-lt128 : goal.returns-then-blocked-lt128
returns-then-blocked-lt128 c =
    let all = answer_refused _ _ _ _ 1 (short-blocked _ _ _ _ c.if-conflict-lt128.false c.if-missing-lt128.false c.if-blocked-lt128.true) (λ e. omega arith) in
    record { answer = all.0; buffers = all.1 }

pub returns-in_err-book : goal.returns-in_err-book
returns-in_err-book c =
    let p = err_from_is_err_and c.from_residual.result c.from_residual.ensures.1 in
    let some = some_number c.in_err-book.field-0.0 in
    let all = answer_refused _ _ _ _ (number_of c.in_err-book.field-0.0)
    (c.in_err-book.ensures.refusal ∙ by-book _ _ _ _ c.if-conflict-lt128.false c.if-missing-lt128.false c.if-blocked-lt128.false)
    (λ e. omega (arith, some, e)) in
    record { answer = rw (p.1, p.2) all.0; buffers = all.1 }

pub returns : goal.returns
returns c =
    let passes = sym (c.in_ok-book.ensures.refusal ∙ by-book _ _ _ _ c.if-conflict-lt128.false c.if-missing-lt128.false c.if-blocked-lt128.false) in
    let found = rw c.in_ok-book.ensures.bytes at c.find_all.ensures in
    let all = answer-given _ _ _ _ passes _ _ _ _ found.answer found.conflict_after found.missing_after found.blocked_after in
    record { answer = all.0; buffers = all.1 }
