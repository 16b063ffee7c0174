-- `compare` meets its contract: the rows are judged in their order.
use Rattle.std.proofs.Common.{sym, ◌∙◌}
use Rattle.std.proofs.lemmas.Result.{err_from_is_err_and}
use Rattle.automaton.proofs.Below.{same-list-true}
use Rattle.definitions.specs.Book.{frame}
use Rattle.refusal.specs.declared.Refusal.TheVariants.{ShortBuffer, Frames}
use Rattle.refusal.proofs.Refused.{some_number}
use Rattle.compare.proofs.CompareRefusals.{too_short, by_first, by-second, by-frame, by-none}
use Rattle.compare.proofs.ComparedAnswer.{compare_refused, compare_given}
use Rattle.compare.proofs.compare.Goals as goal

pub returns-then-history-lt256 : goal.returns-then-history-lt256
returns-then-history-lt256 c =
    let all = compare_refused _ _ _ ShortBuffer (too_short _ _ _ c.if-history-lt256.true) in
    record { answer = all.0; history = all.1 }

pub returns-in_err-first : goal.returns-in_err-first
returns-in_err-first c =
    let p = err_from_is_err_and c.from_residual.result c.from_residual.ensures.1 in
    let r = c.in_err-first.field-0.0 in
    let all = compare_refused _ _ _ r (by_first _ c.args.second.now _ c.if-history-lt256.false _ c.in_err-first.ensures.refusal (some_number r)) in
    record { answer = rw (p.1, p.2) all.0; history = all.1 }

pub returns-in_err-second : goal.returns-in_err-second
returns-in_err-second c =
    let p = err_from_is_err_and c.from_residual-in_err-second.result c.from_residual-in_err-second.ensures.1 in
    let r = c.in_err-second.field-0.0 in
    let all = compare_refused _ _ _ r
    (by-second _ _ _ c.if-history-lt256.false c.in_ok-first.ensures.refusal _ c.in_err-second.ensures.refusal (some_number r)) in
    record { answer = rw (p.1, p.2) all.0; history = all.1 }

pub returns-then-not-same_frame : goal.returns-then-not-same_frame
returns-then-not-same_frame c =
    let frames = rw (c.in_ok-first.ensures.bytes, c.in_ok-second.ensures.bytes) at c.same_frame.ensures in
    let all = compare_refused _ _ _ Frames
    (by-frame _ _ _ c.if-history-lt256.false c.in_ok-first.ensures.refusal c.in_ok-second.ensures.refusal _ frames c.if-not-same_frame.true) in
    record { answer = all.0; history = all.1 }

pub compare_passed-requires : goal.compare_passed-requires
compare_passed-requires c =
    (same-list-true (frame c.in_ok-first.first.bytes.now) (frame c.in_ok-second.second.bytes.now) (sym c.same_frame.ensures ∙ c.if-not-same_frame.false), c.if-history-lt256.false)

pub returns : goal.returns
returns c =
    let frames = rw (c.in_ok-first.ensures.bytes, c.in_ok-second.ensures.bytes) at c.same_frame.ensures in
    let passes = by-none _ _ _ c.if-history-lt256.false c.in_ok-first.ensures.refusal c.in_ok-second.ensures.refusal _ frames c.if-not-same_frame.false in
    let found = rw (c.in_ok-first.ensures.bytes, c.in_ok-second.ensures.bytes) at c.compare_passed.ensures in
    let all = compare_given _ _ _ passes _ _ found.answer found.history in
    record { answer = all.0; history = all.1 }
