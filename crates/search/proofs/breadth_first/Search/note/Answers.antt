-- `note` meets its contract: a state that has a number changes nothing, and else the arrays are as `note` leaves those that a caller lends.
use mathlib.Core.Path.{sym}
use native.Mathlib.Omega.{arith}
use borrow.Author.Tests.{lt-ltb}
use Rattle.search.proofs.Found.{arrays_of, numbered_of, holds-length, noted_known, noted-grows}
use Rattle.search.proofs.breadth_first.Search.note.Goals as goal

pub returns-then-self-state-gt0-clause-found : goal.returns-then-self-state-gt0-clause-found
returns-then-self-state-gt0-clause-found g c =
    let before = c.args.self.now in
    (noted_known (arrays_of before) c.args.state c.args.from c.args.code (omega (arith, c.requires.in_bounds, before.lengths)) c.requires.in_bounds.1 c.if-self-state-gt0.true).holds.are

pub invariant_of-self-clause-within : goal.invariant_of-self-clause-within
invariant_of-self-clause-within g c = omega (arith, c.requires.room, holds-length c.note-self.ensures.holds)

pub invariant_of-self-clause-numbered : goal.invariant_of-self-clause-numbered
invariant_of-self-clause-numbered g c t l = numbered_of c.note-self.ensures t (omega (arith, l, c.note-self.auto.numbers, c.args.self.now.lengths))

pub returns-clause-grown : goal.returns-clause-grown
returns-clause-grown g c =
    let before = c.args.self.now in
    sym (lt-ltb _ _ (noted-grows (arrays_of before) c.args.state c.args.from c.args.code (omega (arith, c.requires.in_bounds, before.lengths)) c.requires.in_bounds.1
    c.if-self-state-gt0.false (omega (arith, c.requires.room, before.lengths)) (holds-length c.note-self.ensures.holds)))
