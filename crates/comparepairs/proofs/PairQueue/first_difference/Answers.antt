-- `first_difference` meets its contract: the search has come to pair i. There are at most as many pairs as states, so it ends.
use Rattle.std.proofs.lemmas.Option.{MatchOption-at_none}
use mathlib.Core.Path.{refl, ◌∙◌}
use native.Mathlib.Omega.{arith}
use Rattle.comparepairs.proofs.PairSearch.{books_of, begun, few-pairs, all_alike}
use Rattle.comparepairs.proofs.PairQueue.first_difference.Goals as goal

pub loop-i-init : goal.loop-i-init
loop-i-init c =
    let q = c.args.self.now in
    let B = c.requires.begun in
    let all = begun _ _ q.queue.now q.label.now (books_of c.args.first c.args.second c.requires.same_width)
    (record { same_width = c.requires.same_width; room_queue = omega (arith, q.sizes); room_label = omega (arith, c.requires.room); bytes = omega (arith, q.sizes) })
    _ refl B.left B.right B.labels in
    (rw B.one_pair all, (refl, refl))

pub loop-i-smaller : goal.loop-i-smaller
loop-i-smaller c =
    let S = c.loop-i.invariant.0 in
    omega (arith, few-pairs _ _ _ _ _ _ _ (books_of c.args.first c.args.second S.ready.same_width) S, c.loop-i-test.true)

pub loop-i-preserved : goal.loop-i-preserved
loop-i-preserved c =
    let tried = c.try_pair-tried.ensures in
    let same = c.loop-i.invariant.1 in
    (MatchOption-at_none _ _ c.in_default.is tried.outcome.shows, (tried.same_queue ∙ same.0, tried.same_label ∙ same.1))

pub returns-clause-spotted : goal.returns-clause-spotted
returns-clause-spotted c =
    let S = c.loop-i.invariant.0 in
    let all = all_alike _ _ _ _ _ _ _ (books_of c.args.first c.args.second S.ready.same_width) S (omega (arith, c.loop-i-test.false)) in
    record { is = all.is; writable = tt }
