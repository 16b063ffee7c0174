-- `policy::valuation::start` meets its contract. The loop's invariant: the sum has the values of the variables from j on.
use mathlib.Core.Path.{◌≡◌, refl, sym, ap₂, ◌∙◌}
use Prim.Native.Nat.{◌<◌, ◌-◌, ◌+◌, ◌*◌, min}
use native.Mathlib.Omega.{arith}
use Rattle.definitions.specs.Policy.{starts}
use Rattle.definitions.specs.Valuation.{initial_value}
use Rattle.definitions.proofs.Starts.{start_carried, start_summed}
use Rattle.definitions.proofs.Valuations.{initial_bound}
use Rattle.policy.proofs.ValuationSums.{Summed, summed-none, summed-more, summed-low}
use Rattle.policy.proofs.valuation.start.Goals.{After-bound-most, After-min}
use Rattle.policy.proofs.valuation.start.Goals as goal

-- ---- one turn of the loop
next : (c : After-bound-most)
    → let p = c.args.policy.now in
    let loop = c.loop-j in
    Summed p (initial_value p) (loop.j - 1) (loop.sum * (c.bound-most.result + 1) + initial_value p (loop.j - 1))
next c =
    let p = c.args.policy.now in
    let loop = c.loop-j in
    summed-more p (initial_value p) loop.j loop.sum c.bound-most.result (initial_value p (loop.j - 1)) (omega arith) loop.invariant c.bound-most.ensures.0 refl

fits : (c : After-bound-most)
    → let p = c.args.policy.now in
    let loop = c.loop-j in
    loop.sum * (c.bound-most.result + 1) + initial_value p (loop.j - 1) < 64
fits c =
    let start = c in
    let p = start.args.policy.now in
    summed-low p (initial_value p) start.requires.0.few_valuations (initial_bound p) (c.loop-j.j - 1) _ (next c)

value : (c : After-min)
    → let p = c.args.policy.now in
    c.min.result ≡ initial_value p (c.loop-j.j - 1)
value c =
    let p = c.args.policy.now in
    let j = c.loop-j.j - 1 in
    let carried = start_carried p j (omega arith) in
    c.min.ensures ∙ ap₂ min (c.start.ensures.0 ∙ sym carried) c.bound-most.ensures.0

pub loop-j-init : goal.loop-j-init
loop-j-init c =
    let p = c.args.policy.now in
    rw c.starts-j.ensures.0 (summed-none p (initial_value p) (starts p) (start_summed p))

pub overflow_mul-sum : goal.overflow_mul-sum
overflow_mul-sum c = omega (arith, fits c)

pub overflow_add-sum-in-loop-j : goal.overflow_add-sum-in-loop-j
overflow_add-sum-in-loop-j c = omega (arith, fits (goal.at.overflow_add-sum-in-loop-j c).After-bound-most, value c)

pub loop-j-preserved : goal.loop-j-preserved
loop-j-preserved c = rw (value c) (next (goal.at.loop-j-preserved c).After-bound-most)
