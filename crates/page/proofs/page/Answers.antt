-- `page` meets its contract: each refusal is that of the lowest row that fits.
use mathlib.Core.Path.{◌∙◌}
use Rattle.std.proofs.lemmas.Result.{err_from_is_err_and}
use Rattle.refusal.specs.declared.Refusal.TheVariants.{ShortBuffer}
use Rattle.page.proofs.PageAnswers.{refused_by_1, refused_by-book, page-refused, page-given}
use Rattle.page.proofs.page.Goals as goal

pub returns-then-page-lt9271 : goal.returns-then-page-lt9271
returns-then-page-lt9271 c =
    let a = c.args in
    let all = page-refused a.bytes.now a.page.now ShortBuffer (refused_by_1 a.bytes.now a.page.now c.if-page-lt9271.true) in
    record { answer = all.0; page_after = all.1 }

pub returns-in_err-book : goal.returns-in_err-book
returns-in_err-book c =
    let a = c.args in
    let all = page-refused a.bytes.now a.page.now c.in_err-book.field-0.0 (c.in_err-book.ensures.refusal ∙ refused_by-book a.bytes.now a.page.now c.if-page-lt9271.false) in
    let p = err_from_is_err_and c.from_residual.result c.from_residual.ensures.1 in
    rw (p.1, p.2) (record { answer = all.0; page_after = all.1 })

pub returns : goal.returns
returns c =
    let a = c.args in
    let book = c.in_ok-book in
    let value = rw book.ensures.bytes at c.write_page.ensures.value in
    let after = rw book.ensures.bytes at c.write_page.ensures.page_after in
    let all = page-given a.bytes.now a.page.now (book.ensures.refusal ∙ refused_by-book a.bytes.now a.page.now c.if-page-lt9271.false) _ _ value after in
    record { answer = all.0; page_after = all.1 }
