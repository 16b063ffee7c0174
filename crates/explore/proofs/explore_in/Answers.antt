-- `explore_in` meets its contract: after s turns the first s situations have been visited.
use Rattle.explore.proofs.ReachedStates.{reached_begun, reaches_from, reached-row, reached-over, reached-turn, reached-done}
use Rattle.definitions.proofs.SearchArray.{searched_room, searched-state, searched_done}
use Rattle.automaton.proofs.Loops.{part_is-drop}
use Rattle.automaton.proofs.Machine.{is_state_law}
use Rattle.explore.specs.Reaches.{all_reached}
use Rattle.explore.proofs.Hints.{hinted_first}
use Rattle.explore.specs.SetImages.{images_machine}
use Rattle.automaton.proofs.Explore.{Sound, reached-sound}
use Rattle.automaton.specs.Explore.{reached}
use Rattle.automaton.specs.Machine.{Machine, is_state}
use lib.ListN.{length-drop}
use native.Mathlib.Omega.{arith}
use mathlib.Core.Bool.{true}
use mathlib.Core.Path.{◌≡◌, refl}
use Rattle.explore.proofs.explore_in.Goals as goal

-- what is reached from a start that is a state
all : (m : Machine) → reached m 127 ≡ all_reached m
unfolding all_reached
all m = refl

sound : (m : Machine) → is_state m.start ≡ true → Sound m (all_reached m)
unfolding all_reached
sound m = reached-sound m 127

pub loop-s-init : goal.loop-s-init
loop-s-init c =
    let a = c.args in
    let p = c.requires in
    let m = images_machine a.images.sets.now a.images.valuations a.images.width a.start.set in
    let begins = is_state_law a.start.set p.start_is_hinted.0 in record {
      reached = reached_begun m (all_reached m) a.found.now a.raw.now p.room.0 p.rows_fit (all m) begins (sound m begins);
      hinted = hinted_first a.found.now a.hints.now a.start.set (omega (arith, p.room.0)) p.start_is_hinted.1;
    }

pub slice_bounds-visit-count : goal.slice_bounds-visit-count
slice_bounds-visit-count c =
    let h = reached-row c.loop-s.invariant.reached c.loop-s-test.true in
    omega arith

pub slice_bounds-visit-start : goal.slice_bounds-visit-start
slice_bounds-visit-start c =
    let h = reached-row c.loop-s.invariant.reached c.loop-s-test.true in
    omega arith

pub visit-requires : goal.visit-requires
visit-requires c =
    let t = c.loop-s-test.true in
    let i = c.loop-s.invariant.reached in
    let h = reached-row i t in
    let r = searched_room i.search in record {
      room = (i.search.few, omega (arith, r, i.room), rw (part_is-drop, length-drop) (omega arith), omega arith);
      state = searched-state i.search t;
      hints_are_right = (i.once, c.loop-s.invariant.hinted);
    }

pub returns-in_err-n : goal.returns-in_err-n
returns-in_err-n c =
    let start = c.args.start.set in
    let begins = is_state_law start c.requires.start_is_hinted.0 in
    rw c.from_residual.ensures
    (reaches_from start (omega (arith, c.requires.room.0)) (sound _ begins).some
    (reached-over c.loop-s.invariant.reached c.loop-s-test.true (rw part_is-drop at (c.in_err-n.ensures.visited start)) refl (omega arith)))

pub loop-s-preserved : goal.loop-s-preserved
loop-s-preserved c =
    let v = c.in_ok-n.ensures in record {
      reached = reached-turn c.loop-s.invariant.reached c.loop-s-test.true (rw part_is-drop at (v.visited.1 c.args.start.set)) v.visited.0;
      hinted = v.hinted;
    }

pub returns : goal.returns
returns c =
    let start = c.args.start.set in
    let begins = is_state_law start c.requires.start_is_hinted.0 in
    let some = (sound _ begins).some in
    let now = c.loop-s.invariant.reached in
    let done = searched_done now.search c.loop-s-test.false in
    (omega (arith, some, done.0), reaches_from start (omega (arith, c.requires.room.0)) some (reached-done now refl c.loop-s-test.false))
