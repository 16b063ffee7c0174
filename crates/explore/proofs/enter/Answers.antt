-- `enter` meets its contract: the state is among those found, or goes after them.
use mathlib.Core.Path.{sym, ◌∙◌}
use Rattle.explore.proofs.StatePlaces.{positive-some, positive-none}
use Rattle.explore.proofs.StateEntry.{note-found, note-new}
use native.Mathlib.Omega.{arith}
use Rattle.explore.proofs.enter.Goals as goal

pub returns-in-Some : goal.returns-in-Some
returns-in-Some c =
    let a = c.args in
    let is = positive-some c.in-Some.number _ c.in-Some.ensures in
    let all = note-found a.found.now a.n a.x.set c.requires.0 c.requires.1 c.in-Some.number is.1 is.0 in
    record { value = all.0; found_after = all.1 }

pub returns : goal.returns
returns c =
    let a = c.args in
    let none = positive-none _ (sym c.in_default.is ∙ c.number_by.ensures) in
    let all = note-new a.found.now a.n a.x.set c.requires.0 c.requires.1 (omega (arith, none)) in
    record { value = all.0; found_after = all.1 }
