-- `try_pair` meets its contract: the search has come to code c of pair i, whose rows are at hand.
use mathlib.Core.Path.{refl, ap, ◌∙◌}
use native.Mathlib.Omega.{arith}
use Rattle.book.specs.Rows.{row_of}
use Rattle.comparepairs.specs.PairSearch.{Both}
use Rattle.comparepairs.proofs.PairSearch.{books_of, Trying, left_state, right_state, rows_read, addable, tried, added, passed_over}
use Rattle.comparepairs.proofs.PairQueue.try_pair.Goals.{After-first_unlike-code, After-row-other, Else-not-both}
use Rattle.comparepairs.proofs.PairQueue.try_pair.Goals as goal

pub row-one-requires : goal.row-one-requires
row-one-requires c =
    let S = c.requires.pair_search in
    let s = left_state _ _ _ _ _ _ _ (books_of c.args.first c.args.second S.ready.same_width) S _ c.requires.i_is_a_pair in
    omega (arith, s, c.from.ensures)

pub row-other-requires : goal.row-other-requires
row-other-requires c =
    let S = c.requires.pair_search in
    let s = right_state _ _ _ _ _ _ _ (books_of c.args.first c.args.second S.ready.same_width) S _ c.requires.i_is_a_pair in
    omega (arith, s, c.from-2.ensures)

pub loop-other-init : goal.loop-other-init
loop-other-init c = (
  record {
    books = books_of c.args.first c.args.second c.requires.pair_search.ready.same_width;
    search = c.requires.pair_search;
    pair = c.requires.i_is_a_pair;
    of_first = (c.row-one.ensures ∙ ap (row_of c.args.first.bytes.now) c.from.ensures);
    of_second = (c.row-other.ensures ∙ ap (row_of c.args.second.bytes.now) c.from-2.ensures);
  },
  (omega arith, (refl, refl)),
)

pub first_unlike-code-requires-clause-row_pair : goal.first_unlike-code-requires-clause-row_pair
first_unlike-code-requires-clause-row_pair c = rows_read _ _ _ _ _ _ _ _ _ c.loop-other.invariant.0

-- the codes before the one found are passed over
come : (c : After-first_unlike-code) → Trying c.args.first.bytes.now c.args.second.bytes.now c.loop-other.self.pairs c.args.i c.first_unlike-code.result
    c.row-one.result.now c.row-other.result.now c.loop-other.self.queue.now c.loop-other.self.label.now
come c = passed_over _ _ _ _ _ _ _ _ _ _ c.loop-other.invariant.0 c.first_unlike-code.ensures

pub both-requires : goal.both-requires
both-requires c = (rows_read _ _ _ _ _ _ _ _ _ (come (goal.at.both-requires c).After-first_unlike-code)).width

pub returns-then-not-both-clause-outcome : goal.returns-then-not-both-clause-outcome
returns-then-not-both-clause-outcome c =
    let all = come (goal.at.returns-then-not-both-clause-outcome c).After-first_unlike-code in
    record {
      pair = all.pair;
      shows = tried _ _ _ _ _ _ _ _ _ all c.first_unlike-code.ensures.fails _ c.then_some.ensures c.first_unlike-code.ensures.most (c.both.ensures.1 c.if-not-both.true);
    }

-- both states take that code
both-take : (c : Else-not-both) → Both c.row-one.result.now c.row-other.result.now c.first_unlike-code.result
both-take c = c.both.ensures.0 c.if-not-both.false

pub add_pair-requires : goal.add_pair-requires
add_pair-requires c =
    let all = addable _ _ _ _ _ _ _ _ _ (come (goal.at.add_pair-requires c).After-first_unlike-code) (both-take (goal.at.add_pair-requires c).Else-not-both) in
    record { row_pair = all.0; both = all.1 }

pub loop-other-preserved : goal.loop-other-preserved
loop-other-preserved c =
    let made = c.add_pair.ensures in
    let all = come (goal.at.loop-other-preserved c).After-first_unlike-code in
    let take = both-take (goal.at.loop-other-preserved c).Else-not-both in
    let queued = added _ _ _ _ _ _ _ _ _ all c.first_unlike-code.ensures.fails take _ refl _ _ made.queue_after made.label_after in
    let same = c.loop-other.invariant.1.1 in
    (rw made.pairs_after queued, (omega (arith, take.code), (made.same_queue ∙ same.0, made.same_label ∙ same.1)))
