-- `mask_holds` meets its contract.
use mathlib.Core.Path.{refl}
use Prim.Native.Nat.{◌<◌}
use native.Mathlib.Omega.{arith}
use borrow.Author.Tests.{le-leb}
use Rattle.definitions.proofs.Sets.{one_shifted}
use Rattle.policy.proofs.PassedFile.{count_in_range_law}
use Rattle.policycheck.proofs.masks.mask_holds.Goals.{After-count}
use Rattle.policycheck.proofs.masks.mask_holds.Goals as goal

narrow : (c : After-count) → c.count.result < 64
narrow c =
    let start = c in
    omega (arith, count_in_range_law start.args.policy.now start.requires.1 start.args.f start.requires.2)

pub overflow_shl-result : goal.overflow_shl-result
overflow_shl-result c = narrow c

pub returns-then-mask-ge1 : goal.returns-then-mask-ge1
returns-then-mask-ge1 c =
    rw (one_shifted c.count.result (narrow c), ← c.mask-mask.ensures.0, ← c.count.ensures.0, le-leb 1 c.mask-mask.result c.if-mask-ge1.true) refl
