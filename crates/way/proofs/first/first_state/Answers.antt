-- `first_state` meets its contract: i states have been visited, and none of those found is a goal.
use native.Mathlib.Omega.{arith}
use borrow.Author.Rules.{rules}
use Rattle.way.proofs.FirstStates.{begun, can-visit, further, here, all-visited, all_found}
use Rattle.way.proofs.first.first_state.Goals as goal

pub loop-i-init : goal.loop-i-init
loop-i-init g c = begun c.args.goal _ c.requires.begun c.requires.start

pub returns-then-all-count : goal.returns-then-all-count
returns-then-all-count g c = all_found c.args.goal c.loop-i.invariant (omega (arith, c.if-all-count.true, c.states-all.ensures, c.count-in-loop-i.ensures))

pub visit_for-requires : goal.visit_for-requires
visit_for-requires g c =
    let l = c.loop-i in
    (search rules, (l.invariant.none, (can-visit c.args.goal l.invariant (omega (arith, c.loop-i-test.true, c.count.ensures)), c.requires.room)))

pub returns-then-visit_for : goal.returns-then-visit_for
returns-then-visit_for g c =
    here c.args.goal c.loop-i.invariant (omega (arith, c.loop-i-test.true, c.count.ensures)) c.visit_for.ensures c.if-visit_for.true

pub loop-i-preserved : goal.loop-i-preserved
loop-i-preserved g c =
    let e = c.next_level-level.ensures in
    rw (e.0, e.1, c.count-in-loop-i-2.ensures) (further c.args.goal c.loop-i.invariant (omega (arith, c.loop-i-test.true, c.count.ensures)) c.visit_for.ensures c.if-visit_for.false)

pub returns : goal.returns
returns g c = all-visited c.args.goal c.loop-i.invariant (omega (arith, c.loop-i-test.false, c.count.ensures))
