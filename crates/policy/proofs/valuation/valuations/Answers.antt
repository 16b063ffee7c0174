-- `policy::valuation::valuations` meets its contract. The loop's invariant: the product is that of the numbers of values of the variables before j.
use Prim.Native.Nat.{◌+◌}
use native.Mathlib.Omega.{arith}
use Rattle.definitions.specs.Valuation.{values_of}
use Rattle.definitions.proofs.Products.{multiplied_more, next_fits}
use Rattle.policy.proofs.valuation.valuations.Goals as goal

pub overflow_mul-product : goal.overflow_mul-product
overflow_mul-product c =
    let loop = c.loop-j in
    omega (arith, next_fits loop.j loop.product (c.bound.result + 1) loop.invariant.1 (omega arith) (omega arith))

pub loop-j-preserved : goal.loop-j-preserved
loop-j-preserved c =
    let loop = c.loop-j in
    multiplied_more (values_of c.args.policy.now) loop.j loop.product (c.bound.result + 1) loop.invariant (omega arith) (omega arith)
