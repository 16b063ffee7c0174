-- `images::deciding::choose` meets its contract. The loop's invariant: the choice is that among the rules below k, and `rest` has the other rules, shifted down by k.
use Rattle.std.proofs.Common.{sym, ◌∙◌, ◌<◌, ◌+◌, arith, length, get_or}
use Rattle.rules.proofs.RuleSets.{Member, lowest_member, left-next}
use Rattle.images.proofs.Choices.{chosen_turn, chosen_done}
use Rattle.images.proofs.deciding.choose.Goals.{After-lowest-zeros}
use Rattle.images.proofs.deciding.choose.Goals as goal

member : (c : After-lowest-zeros) → Member c.args.fits c.loop-rest.k (c.loop-rest.k + c.lowest-zeros.result)
member c =
    let loop = c.loop-rest in
    lowest_member c.args.fits loop.k loop.rest c.lowest-zeros.result (omega arith) loop.invariant.1 c.loop-rest-test.true c.lowest-zeros.ensures

listed : (c : After-lowest-zeros)
    → let m = c.loop-rest.k + c.lowest-zeros.result in
    (m < length c.args.ranks.now) × (m < length c.args.targets.now) × (get_or c.args.targets.now m 0 < 64)
listed c = c.requires (c.loop-rest.k + c.lowest-zeros.result) (member c).here

pub bounds-ranks-k : goal.bounds-ranks-k
bounds-ranks-k c = (listed (goal.at.bounds-ranks-k c).After-lowest-zeros).0

pub bounds-targets-k : goal.bounds-targets-k
bounds-targets-k c = (listed (goal.at.bounds-targets-k c).After-lowest-zeros).1

pub with_rule-choice-requires : goal.with_rule-choice-requires
with_rule-choice-requires c = (listed (goal.at.with_rule-choice-requires c).After-lowest-zeros).2

pub loop-rest-preserved : goal.loop-rest-preserved
loop-rest-preserved c =
    let a = c.args in
    let lowest = c.lowest-zeros in
    let loop = c.loop-rest in
    let w = c.with_rule-choice in (
      omega (arith, listed (goal.at.loop-rest-preserved c).After-lowest-zeros),
      left-next a.fits loop.k loop.rest lowest.result loop.invariant.1,
      chosen_turn a.fits a.ranks.now a.targets.now loop.k (loop.k + lowest.result) loop.choice w.result (omega arith) (member (goal.at.loop-rest-preserved c).After-lowest-zeros) loop.invariant.2
          w.ensures.0 w.ensures.1 w.ensures.2,
    )

pub returns : goal.returns
returns c =
    let a = c.args in
    let loop = c.loop-rest in
    chosen_done a.fits a.ranks.now a.targets.now loop.k (length a.ranks.now) loop.choice loop.invariant.0 (sym loop.invariant.1 ∙ c.loop-rest-test.false) loop.invariant.2
