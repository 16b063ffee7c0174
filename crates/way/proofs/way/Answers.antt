-- `way` meets its contract: each refusal is that of the first row that fits.
use Rattle.std.proofs.lemmas.Result.{err_from_is_err_and}
use Rattle.refusal.specs.declared.Refusal.TheVariants.{ShortBuffer, NotInBook, UnknownOutcome}
use Rattle.refusal.proofs.Refused.{some_number}
use Rattle.way.proofs.WayAnswers.{refused_by_1, refused_by-book, refused-by-18, refused-by-16, refused-by-none, way-refused, way-given}
use Rattle.way.proofs.way.Goals as goal

pub returns-then-history-lt128 : goal.returns-then-history-lt128
returns-then-history-lt128 c =
    let a = c.args in
    let all = way-refused a.bytes.now a.request a.outcome a.history.now ShortBuffer (refused_by_1 a.bytes.now a.request a.outcome a.history.now c.if-history-lt128.true) in
    record { answer = all.0; history = all.1 }

pub returns-in_err-book : goal.returns-in_err-book
returns-in_err-book c =
    let a = c.args in
    let refusal = c.in_err-book.field-0.0 in
    let all = way-refused a.bytes.now a.request a.outcome a.history.now refusal
    (refused_by-book a.bytes.now a.request a.outcome a.history.now c.if-history-lt128.false _ (some_number refusal) c.in_err-book.ensures.refusal) in
    let p = err_from_is_err_and c.from_residual.result c.from_residual.ensures.1 in
    rw (p.1, p.2) (record { answer = all.0; history = all.1 })

pub returns-in_err-sought : goal.returns-in_err-sought
returns-in_err-sought c =
    let a = c.args in
    let all = way-refused a.bytes.now a.request a.outcome a.history.now UnknownOutcome
    (refused-by-18 a.bytes.now a.request a.outcome a.history.now c.if-history-lt128.false c.in_ok-book.ensures.refusal c.in_err-sought.ensures.1) in
    let p = err_from_is_err_and c.from_residual-in_err-sought.result c.from_residual-in_err-sought.ensures.1 in
    rw (p.1, p.2, c.in_err-sought.ensures.0) (record { answer = all.0; history = all.1 })

pub returns-then-book-request : goal.returns-then-book-request
returns-then-book-request c =
    let a = c.args in
    let book = c.in_ok-book in
    let beyond = rw (book.book.requests_are, book.ensures.bytes) at c.if-book-request.true in
    let all = way-refused a.bytes.now a.request a.outcome a.history.now NotInBook
    (refused-by-16 a.bytes.now a.request a.outcome a.history.now c.if-history-lt128.false book.ensures.refusal _ c.in_ok-sought.ensures beyond) in
    record { answer = all.0; history = all.1 }

pub returns : goal.returns
returns c =
    let a = c.args in
    let book = c.in_ok-book in
    let within = rw (book.book.requests_are, book.ensures.bytes) at c.if-book-request.false in
    let shown = rw (book.ensures.bytes, c.in_ok-sought.ensures) at c.show.ensures in
    let all = way-given a.bytes.now a.request a.outcome a.history.now
    (refused-by-none a.bytes.now a.request a.outcome a.history.now c.if-history-lt128.false book.ensures.refusal _ c.in_ok-sought.ensures within) _ _ shown.0 shown.1 in
    record { answer = all.0; history = all.1 }
