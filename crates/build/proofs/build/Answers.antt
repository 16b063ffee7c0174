-- `build` meets its contract: each refusal is that of the first row that fits.
use Rattle.build.proofs.BuildAnswers.{refused_by_1, refused-by-file, build_refused}
use Rattle.build.proofs.PolicySizes.{has-passed}
use Rattle.refusal.specs.Refused.{number_of}
use Rattle.refusal.proofs.Refused.{some_number}
use Rattle.std.proofs.lemmas.Result.{err_from_is_err_and}
use native.Mathlib.Omega.{arith}
use mathlib.Core.Path.{sym, ◌∙◌}
use Rattle.build.proofs.build.Goals as goal

pub returns-then-book-lt17284 : goal.returns-then-book-lt17284
returns-then-book-lt17284 c =
    let a = c.args in
    let all = build_refused a.policy.now a.book.now 1 (λ e. omega arith) (refused_by_1 a.policy.now a.book.now c.if-book-lt17284.true) in
    record { answer = all.0; book = all.1 }

pub returns-in_err-check : goal.returns-in_err-check
returns-in_err-check c =
    let a = c.args in
    let p = err_from_is_err_and c.from_residual.result c.from_residual.ensures.1 in
    let e = c.in_err-check.ensures in
    let some = some_number c.in_err-check.field-0.0 in
    let all = build_refused a.policy.now a.book.now (number_of c.in_err-check.field-0.0) (λ z. omega (arith, some, z))
    (refused-by-file a.policy.now a.book.now c.if-book-lt17284.false (λ z. omega (arith, some, e ∙ z)) ∙ sym e) in
    record { answer = rw (p.1, p.2) all.0; book = all.1 }

pub of-requires : goal.of-requires
of-requires c = has-passed c.args.policy.now (sym c.in_ok-check.ensures)
