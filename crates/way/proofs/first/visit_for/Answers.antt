-- `visit_for` meets its contract: the codes below some code have been tried from the state at the place, and no state that is found is a goal.
use mathlib.Core.Bool.{false≢true}
use mathlib.Core.Path.{◌∙◌, sym}
use native.Mathlib.Omega.{arith}
use borrow.Author.Rules.{rules}
use borrow.Author.Tests.{ltb-true, lt-ltb}
use Rattle.way.proofs.VisitTurns.{visit-asks, visit-new, visit-hit, visit-turn}
use Rattle.way.proofs.first.visit_for.Goals.{else-is_new-via-then-is_new+else-is_met_at, else-is_new-via-else-is_new}
use Rattle.way.proofs.first.visit_for.Goals as goal

pub note-is_new-requires : goal.note-is_new-requires
note-is_new-requires g c =
    let sought = c.args.goal in
    (search rules, visit-asks sought c.requires.can_visit c.loop-code.invariant (omega (arith, c.loop-code-test.true, sought.book.width_is)) _ c.state-state.ensures _ c.entry-there.ensures c.requires.room)

pub is_met_at-requires : goal.is_met_at-requires
is_met_at-requires g c =
    let sought = c.args.goal in
    visit-new sought c.requires.can_visit c.loop-code.invariant (omega (arith, c.loop-code-test.true, sought.book.width_is)) _ c.state-state.ensures _ c.entry-there.ensures c.note-is_new.new.self c.note-is_new.ensures.found (ltb-true _ _ (sym c.note-is_new.ensures.grown ∙ c.if-is_new.true))

pub returns-then-is_met_at : goal.returns-then-is_met_at
returns-then-is_met_at g c =
    let sought = c.args.goal in
    visit-hit sought c.requires.can_visit c.loop-code.invariant (omega (arith, c.loop-code-test.true, sought.book.width_is)) _ c.state-state.ensures _ c.entry-there.ensures c.note-is_new.new.self c.note-is_new.ensures.found (ltb-true _ _ (sym c.note-is_new.ensures.grown ∙ c.if-is_new.true)) c.if-is_met_at.ensures

pub loop-code-preserved : goal.loop-code-preserved
loop-code-preserved g c =
    let sought = c.args.goal in
    let turned = visit-turn sought c.requires.can_visit c.loop-code.invariant (omega (arith, c.loop-code-test.true, sought.book.width_is)) _ c.state-state.ensures _ c.entry-there.ensures c.note-is_new.new.self c.note-is_new.ensures.found in
    elim c.else-is_new.branch [
      | else-is_new-via-then-is_new+else-is_met_at w ↦ turned (λ _. w.if-is_met_at.ensures)
      | else-is_new-via-else-is_new w ↦ turned (λ l. absurd (false≢true (sym w.if-is_new.false ∙ c.note-is_new.ensures.grown ∙ lt-ltb _ _ l)))
    ]
