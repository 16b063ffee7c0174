-- `has_marked_successor` meets its contract: the events below c lead to states that are not marked.
use mathlib.Core.Path.{◌≡◌, sym}
use mathlib.Core.Bool.{true}
use native.Mathlib.Omega.{arith}
use Rattle.automaton.proofs.Below.{any_below_law}
use Rattle.definitions.specs.Book.{events}
use Rattle.findings.specs.Marks.{marked_successor}
use Rattle.findings.proofs.LowestBelow.{any_end}
use Rattle.findings.proofs.marks.has_marked_successor.Goals as goal

pub returns-then-marks-entry : goal.returns-then-marks-entry
returns-then-marks-entry c =
    let a = c.args in
    let b = a.book.bytes.now in
    let l = c.loop-c in
    let is : marked_successor b a.marks.now a.state l.c ≡ true = rw c.entry.ensures at c.if-marks-entry.true in
    sym (any_below_law (marked_successor b a.marks.now a.state) (events b) l.c (omega (arith, c.events-c-end.ensures, c.loop-c-test.true)) is)

pub returns : goal.returns
returns c =
    let a = c.args in
    let b = a.book.bytes.now in
    let l = c.loop-c in
    sym (any_end (marked_successor b a.marks.now a.state) (events b) l.c l.invariant (omega (arith, c.events-c-end.ensures, c.loop-c-test.false)))
