-- `visit` meets its contract: after c turns the codes below c have been tried.
use Rattle.explore.proofs.SituationVisits.{tried_begun, tried-room, tried-once, tried-low, tried-turn, tried-over, tried-done}
use Rattle.explore.proofs.SetRows.{row-long, row_step}
use Rattle.explore.proofs.StatePlaces.{unwrap-positive}
use Rattle.explore.proofs.Hints.{hinted_turn}
use Rattle.explore.specs.SetImages.{images_machine}
use Rattle.automaton.specs.Machine.{step}
use Rattle.automaton.specs.StateList.{number_among, add_state}
use Rattle.std.specs.Prelude.{Option, unwrap_or}
use lib.ListN.{get_or, take}
use native.Mathlib.Omega.{arith}
use Prim.Native.Nat.{ℕ, ◌<◌, ◌≤◌}
use mathlib.Core.Path.{◌≡◌, ap, ◌∙◌}
use Rattle.explore.proofs.visit.Goals.{In-loop-c, After-unwrap_or-number}
use Rattle.explore.proofs.visit.Goals as goal

-- the code is below the width
inside : (c : In-loop-c) → c.loop-c.c < c.args.images.width
inside c =
    let a = c.args in
    omega (arith, c.loop-c-test.true, row-long a.images.sets.now a.images.width a.situation.set a.images.valuations c.step_all.ensures)

-- where the code leads
led : (c : In-loop-c) (start : ℕ)
    → let a = c.args in
    get_or c.step_all.new.next c.loop-c.c 0 ≡ step (images_machine a.images.sets.now a.images.valuations a.images.width start) a.situation.set c.loop-c.c
led c start =
    let p = c in
    let a = p.args in
    row_step a.images.sets.now a.images.width a.situation.set start a.images.valuations c.loop-c.c p.requires.state c.step_all.ensures
    (inside c)

-- the number that the code leads to, 0 where the step is not possible
number : (c : After-unwrap_or-number)
    → let x = get_or c.step_all.new.next c.loop-c.c 0 in
    c.unwrap_or-number.result ≡ number_among (add_state (take c.loop-c.k c.loop-c.found) x) x
number c = c.unwrap_or-number.ensures ∙ ap (λ (r : Option ℕ). unwrap_or r 0) c.note.ensures.value ∙ unwrap-positive _

pub loop-c-init : goal.loop-c-init
loop-c-init c =
    let p = c.requires in record {
      tried = λ start. tried_begun _ c.args.situation.set c.args.n c.args.found.now c.args.row.now p.room.1 p.room.2 p.room.0;
      hinted = p.hints_are_right.1;
    }

pub note-requires : goal.note-requires
note-requires c =
    let t = c.loop-c.invariant.tried 0 in
    (omega (arith, tried-room t, t.room, t.few), t.few, tried-once t c.requires.hints_are_right.0, c.loop-c.invariant.hinted)

pub overflow_cast-row : goal.overflow_cast-row
overflow_cast-row c =
    let at = goal.at.overflow_cast-row c in
    let below = inside at.In-loop-c in
    let h = tried-low (c.loop-c.invariant.tried 0) below (led at.In-loop-c 0) (number at.After-unwrap_or-number) c.note.ensures.found_after in
    omega arith

pub returns-then-k-gt127-clause-visited : goal.returns-then-k-gt127-clause-visited
returns-then-k-gt127-clause-visited c =
    let at = goal.at.returns-then-k-gt127-clause-visited c in
    let below = inside at.In-loop-c in
    λ start.
    tried-over (c.loop-c.invariant.tried start) below (led at.In-loop-c start) (number at.After-unwrap_or-number) c.note.ensures.found_after
    (omega (arith, c.max-k.ensures, c.if-k-gt127.true))

pub loop-c-preserved : goal.loop-c-preserved
loop-c-preserved c =
    let at = goal.at.loop-c-preserved c in
    let t = c.loop-c.invariant.tried 0 in
    let n = c.note.ensures in
    let e = c.max-k.ensures in
    let is = number at.After-unwrap_or-number in
    let below = inside at.In-loop-c in record {
      tried = λ start. rw e (tried-turn (c.loop-c.invariant.tried start) below (led at.In-loop-c start) is n.found_after (omega (arith, e, c.if-k-gt127.false)));
      hinted =
          hinted_turn c.loop-c.found c.loop-c.k (get_or c.step_all.new.next c.loop-c.c 0) c.unwrap_or-number.result _ _ _ (omega (arith, tried-room t, t.room, t.few))
          e is n.found_after n.hinted;
    }

pub returns-clause-visited : goal.returns-clause-visited
returns-clause-visited c =
    let a = c.args in
    let all : a.images.width ≤ c.loop-c.c =
    omega (arith, c.loop-c-test.false, row-long a.images.sets.now a.images.width a.situation.set a.images.valuations c.step_all.ensures) in
    ((c.loop-c.invariant.tried 0).few, λ start. tried-done (c.loop-c.invariant.tried start) all)
