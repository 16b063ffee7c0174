-- `policy::counts::requests` meets its contract. The loop's invariant: the product is that of the counts before f.
use native.Mathlib.Omega.{arith}
use Rattle.definitions.specs.Policy.{count}
use Rattle.definitions.proofs.Products.{multiplied_more, next_fits}
use Rattle.policy.proofs.counts.requests.Goals as goal

pub overflow_mul-product : goal.overflow_mul-product
overflow_mul-product c =
    let loop = c.loop-f in
    omega (arith, next_fits loop.f loop.product c.count-product.result loop.invariant.1 (omega arith) (omega arith))

pub loop-f-preserved : goal.loop-f-preserved
loop-f-preserved c =
    let loop = c.loop-f in
    multiplied_more (count c.args.policy.now) loop.f loop.product c.count-product.result loop.invariant c.count-product.ensures.0 (omega arith)
