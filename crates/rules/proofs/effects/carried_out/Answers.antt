-- `rules::effects::carried_out` meets its contract. The loop's invariant: `sum` has the changed variables from j on.
use mathlib.Core.Path.{ap, ap₂, ◌∙◌}
use Prim.Native.Nat.{ℕ, ◌<◌, ◌-◌, ◌+◌, ◌*◌}
use native.Mathlib.Omega.{arith}
use mathlib.Core.List.{List}
use lib.ListN.{get_or}
use Rattle.definitions.specs.Valuation.{with_variable, changed}
use Rattle.automaton.specs.Below.{fold_below}
use Rattle.policy.proofs.ValuationSums.{bound_small, Summed, summed-none, summed-more, summed-all, valuation-low, summed-low}
use Rattle.rules.specs.Arrays.{entry_of}
use Rattle.rules.specs.Changes.{change_at, changed_by}
use Rattle.rules.proofs.Changes.{changed-within}
use Rattle.rules.proofs.effects.carried_out.Goals.{After-changed-digit, In-loop-j}
use Rattle.rules.proofs.effects.carried_out.Goals as goal

-- the changed values, which stay within their bounds
abbrev changes : List ℕ → List ℕ → ℕ → ℕ → List ℕ → ℕ → ℕ
changes policy part first step values = changed_by policy (change_at part first step) (entry_of values)

-- the number after the turn
next : (c : After-changed-digit)
    → let a = c.args in
    let loop = c.loop-j in
    Summed a.policy.now (changes a.policy.now a.part.now a.first a.step a.values.now) (loop.j - 1)
    (loop.sum * (get_or a.bounds.now (loop.j - 1) 0 + 1) + c.changed-digit.result)
next c =
    let a = c.args in
    let loop = c.loop-j in
    let most = get_or a.bounds.now (loop.j - 1) 0 in
    let is = c.requires.1.entry (loop.j - 1) (omega arith) in
    summed-more a.policy.now (changes a.policy.now a.part.now a.first a.step a.values.now) loop.j loop.sum most c.changed-digit.result (omega arith)
    loop.invariant is (c.changed-digit.ensures.0 ∙ ap₂ (λ (n b : ℕ). changed n b (entry_of a.values.now (loop.j - 1))) c.from-change.ensures is)

fits : (c : After-changed-digit)
    → let a = c.args in
    let loop = c.loop-j in
    Summed a.policy.now (changes a.policy.now a.part.now a.first a.step a.values.now) (loop.j - 1)
    (loop.sum * (get_or a.bounds.now (loop.j - 1) 0 + 1) + c.changed-digit.result)
    → loop.sum * (get_or a.bounds.now (loop.j - 1) 0 + 1) + c.changed-digit.result < 64
fits c =
    let a = c.args in
    let loop = c.loop-j in
    summed-low a.policy.now (changes a.policy.now a.part.now a.first a.step a.values.now) c.requires.0.few_valuations
    (changed-within a.policy.now (change_at a.part.now a.first a.step) (entry_of a.values.now) c.requires.2.most) (loop.j - 1)
    (loop.sum * (get_or a.bounds.now (loop.j - 1) 0 + 1) + c.changed-digit.result)

pub loop-j-init : goal.loop-j-init
loop-j-init c =
    let a = c.args in
    let p = a.policy.now in
    let new = changes p a.part.now a.first a.step a.values.now in
    summed-none p new c.variables-j.result (ap (λ (n : ℕ). fold_below n 0 (with_variable p new)) c.variables-j.ensures.0)

pub overflow_add-sum : goal.overflow_add-sum
overflow_add-sum c =
    let j = c.loop-j.j - 1 in
    omega (arith, c.requires.1.entry j (omega arith), bound_small c.args.policy.now c.requires.0.few_valuations j (omega arith))

pub overflow_mul-sum : goal.overflow_mul-sum
overflow_mul-sum c = omega (arith, fits c (next c))

pub overflow_add-sum-in-loop-j : goal.overflow_add-sum-in-loop-j
overflow_add-sum-in-loop-j c = omega (arith, fits c (next c))

pub loop-j-preserved : goal.loop-j-preserved
loop-j-preserved c = next c

pub returns : goal.returns
returns c =
    let a = c.args in
    let loop = c.loop-j in
    let new = changes a.policy.now a.part.now a.first a.step a.values.now in
    let e = summed-all a.policy.now new loop.j loop.sum (omega arith) loop.invariant in (
      e,
      rw e (valuation-low a.policy.now new c.requires.0.few_valuations
          (changed-within a.policy.now (change_at a.part.now a.first a.step) (entry_of a.values.now) c.requires.2.most)),
    )
