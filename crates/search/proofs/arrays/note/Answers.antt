-- `note` meets its contract: a state that has a number changes nothing, and a new one is stored at the next place.
use Prim.Native.Nat.{◌+◌, ◌≤◌, ◌<◌}
use native.Mathlib.Omega.{arith}
use lib.ListN.{length}
use Rattle.search.proofs.Found.{noted_known, noted-room, noted-new}
use Rattle.search.proofs.arrays.note.Goals.{Else-numbers-state-gt0}
use Rattle.search.proofs.arrays.note.Goals as goal

-- a new state finds a place
room : (c : Else-numbers-state-gt0) → (c.args.n + 1 < length c.args.numbers.now) × (length c.args.numbers.now ≤ 128)
room c = let s = c in (noted-room s.requires.arrays _ _ _ s.requires.state_in_bounds.0 s.requires.state_in_bounds.1 c.if-numbers-state-gt0.false s.requires.code_in_bounds, s.requires.arrays.few)

pub returns-then-numbers-state-gt0 : goal.returns-then-numbers-state-gt0
returns-then-numbers-state-gt0 c = noted_known c.requires.arrays _ _ _ c.requires.state_in_bounds.0 c.requires.state_in_bounds.1 c.if-numbers-state-gt0.true

pub overflow_add-more : goal.overflow_add-more
overflow_add-more c = omega (arith, room c)

pub bounds-order-n : goal.bounds-order-n
bounds-order-n c = omega (arith, room c, c.requires.arrays.room_order)

pub overflow_cast-from : goal.overflow_cast-from
overflow_cast-from c = omega (arith, room (goal.at.overflow_cast-from c).Else-numbers-state-gt0, c.requires.state_in_bounds)

pub put-requires : goal.put-requires
put-requires c = omega (arith, room (goal.at.put-requires c).Else-numbers-state-gt0, c.requires.arrays.room_trail)

pub overflow_cast-numbers : goal.overflow_cast-numbers
overflow_cast-numbers c = omega (arith, room (goal.at.overflow_cast-numbers c).Else-numbers-state-gt0)

pub returns : goal.returns
returns c =
    rw c.put.ensures (noted-new c.requires.arrays _ _ _ c.requires.state_in_bounds.0 c.requires.state_in_bounds.1 c.if-numbers-state-gt0.false c.requires.code_in_bounds)
