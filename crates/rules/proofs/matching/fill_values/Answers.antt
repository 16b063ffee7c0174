-- `rules::matching::fill_values` meets its contract. The loop's invariant: the fields from f on have their entries, and `rest` has the values of those before.
use Rattle.std.proofs.Common.{◌≤◌, ◌-◌, arith}
use Rattle.policy.proofs.PassedFile.{count_in_range_law}
use Rattle.rules.proofs.Values.{taken_begun, taken_turn, taken_done}
use Rattle.rules.proofs.matching.fill_values.Goals.{After-count-count}
use Rattle.rules.proofs.matching.fill_values.Goals as goal

counted : (c : After-count-count) → 1 ≤ c.count-count.result
counted c = rw c.count-count.ensures.0 (count_in_range_law c.args.policy.now c.requires.0.counts (c.loop-f.f - 1) (omega arith)).0

pub loop-f-init : goal.loop-f-init
loop-f-init c = taken_begun c.args.policy.now c.args.r c.args.values.now c.fields-f.result c.fields-f.ensures.0

pub nonzero_rem-values : goal.nonzero_rem-values
nonzero_rem-values c = omega (arith, counted c)

pub nonzero_div-rest : goal.nonzero_div-rest
nonzero_div-rest c = omega (arith, counted c)

pub loop-f-preserved : goal.loop-f-preserved
loop-f-preserved c =
    let loop = c.loop-f in
    taken_turn c.args.policy.now c.args.r loop.values loop.rest loop.f c.count-count.result loop.invariant c.loop-f-test.true (omega arith) (omega arith)
    c.count-count.ensures.0

pub returns : goal.returns
returns c =
    let loop = c.loop-f in
    taken_done c.args.policy.now c.args.r loop.values loop.rest loop.f loop.invariant (omega arith) (omega arith)
