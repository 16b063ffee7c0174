-- `note` meets its contract: the set is empty, the hint is right, or the state is entered.
use Rattle.explore.proofs.StatePlaces.{some-positive, none-positive}
use Rattle.explore.proofs.Hints.{hinted_none, hinted_known, unhinted, hinted-entered, number-some}
use lib.ListN.{take}
use native.Mathlib.Nat.{mod-lt}
use Rattle.explore.proofs.StateEntry.{note_none, note_hint, hint-within, noted_low}
use borrow.Author.Tests.{eqb-true, eqb-false}
use native.Mathlib.Omega.{arith}
use Prim.Native.Nat.{◌%◌, ◌<◌, ◌+◌}
use mathlib.Core.Path.{sym, ◌∙◌}
use Rattle.explore.proofs.note.Goals.{Else-is_empty, in-Some+else-stands_at, in_default}
use Rattle.explore.proofs.note.Goals as goal

-- the set is not empty
some : (c : Else-is_empty) → 0 < c.args.x.set
some c =
    let x = c.args.x.set in
    let none = eqb-false x 0 (sym c.is_empty.ensures ∙ c.if-is_empty.false) in
    omega arith

pub returns-then-is_empty : goal.returns-then-is_empty
returns-then-is_empty c =
    let a = c.args in
    let none = eqb-true a.x.set 0 (sym c.is_empty.ensures ∙ c.if-is_empty.true) in
    let noted = note_none a.found.now a.n a.x.set c.requires.0 none in record { value = none-positive _ noted.0; found_after = noted.1; hinted = hinted_none _ _ a.x.set none c.requires.3 }

pub returns-then-stands_at : goal.returns-then-stands_at
returns-then-stands_at c =
    let a = c.args in
    let k = c.in-Some.index in
    let is = sym c.stands_at.ensures ∙ c.if-stands_at.true in
    let noted = note_hint a.found.now a.n a.x.set c.requires.0 k is c.requires.2 in
    let within = hint-within a.found.now a.n a.x.set c.requires.0 k is in
    record { value = some-positive (k + 1) _ (omega arith) noted.0; found_after = noted.1; hinted = hinted_known _ _ a.x.set (k + 1) (some (goal.at.returns-then-stands_at c).Else-is_empty) noted.0 within c.requires.3 }

pub enter-number-requires : goal.enter-number-requires
enter-number-requires c = (
  c.requires.0,
  some (goal.at.enter-number-requires c).Else-is_empty,
  λ z. elim c.match-hint.branch [ in-Some+else-stands_at w ↦ absurd cc | in_default w ↦ unhinted _ _ c.args.x.set c.requires.3 (omega (arith, w.in_default.ensures, c.from.ensures)) ],
)

pub overflow_cast-hints : goal.overflow_cast-hints
overflow_cast-hints c =
    let h = noted_low c.args.found.now c.args.n c.args.x.set c.requires.0 c.enter-number.result c.enter-number.ensures.value in
    omega (arith, c.requires.1)

pub returns : goal.returns
returns c =
    let e = c.enter-number.ensures in
    let x = c.args.x.set in
    let number = number-some (take c.args.n c.args.found.now) x (some (goal.at.returns c).Else-is_empty) in
    let low : x % 251 < 251 = mod-lt x (omega arith) in
    record { value = some-positive c.enter-number.result _ (omega (arith, e.value, number)) e.value; found_after = e.found_after; hinted = hinted-entered _ _ x c.requires.3 c.enter-number.result (omega (arith, e.value, number)) (omega (arith, c.told-hints)) }
