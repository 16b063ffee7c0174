-- `rules::effects::fill_variables` meets its contract. The loop's invariant: the first j entries are filled, and `rest` is what remains of v.
use Rattle.std.proofs.Common.{◌≡◌, ◌≢◌, ◌<◌, ◌+◌, length, get_or, arith, get_or-set_other, get_or-set_same, below_more}
use Rattle.definitions.specs.Valuation.{bound, values_of}
use Rattle.policy.proofs.ValuationSums.{bound_small}
use Rattle.rules.proofs.Changes.{rest_more, variable_is}
use Rattle.rules.proofs.effects.fill_variables.Goals.{In-loop-j}
use Rattle.rules.proofs.effects.fill_variables.Goals as goal

bound-is : (c : In-loop-j) → get_or c.args.bounds.now c.loop-j.j 0 ≡ bound c.args.policy.now c.loop-j.j
bound-is c = c.requires.1.entry c.loop-j.j (omega arith)

pub overflow_add-count : goal.overflow_add-count
overflow_add-count c =
    omega (arith, bound-is (goal.at.overflow_add-count c).In-loop-j, bound_small c.args.policy.now c.requires.0.few_valuations c.loop-j.j (omega arith))

pub loop-j-preserved : goal.loop-j-preserved
loop-j-preserved c =
    let loop = c.loop-j in
    let p = c.args.policy.now in
    let most = get_or c.args.bounds.now loop.j 0 in
    let e : most + 1 ≡ values_of p loop.j = omega (arith, bound-is (goal.at.loop-j-preserved c).In-loop-j) in (
      rest_more p c.args.v loop.j loop.rest (most + 1) loop.invariant.0 e,
      below_more _ _
          (λ i l. let other : i ≢ loop.j = omega arith in rw get_or-set_other (loop.invariant.1 i l))
          (let within : loop.j < length loop.values = omega arith in rw get_or-set_same (variable_is p c.args.v loop.j loop.rest (most + 1) loop.invariant.0 e)),
    )
