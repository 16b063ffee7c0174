-- `build_sized` meets its contract: each room is taken where it is enough.
use Rattle.build.proofs.PolicySizes.{width_most_law, room-by_codes, room-by_images, room-by-valuations}
use native.Mathlib.Omega.{arith}
use Rattle.build.proofs.build_sized.Goals as goal

pub build_with-requires-clause-room : goal.build_with-requires-clause-room
build_with-requires-clause-room c =
    let p = c.args.policy in
    room-by-valuations p.bytes.now p.shape p.passed p.shape_is 3 32 c.if-shape-le3.true c.if-shape-le32.true

pub overflow_mul-shape : goal.overflow_mul-shape
overflow_mul-shape c =
    let p = c.args.policy in
    record { fits = omega (arith, room-by_codes p.bytes.now p.shape p.passed p.shape_is 136 (width_most_law p.bytes.now p.shape p.passed p.shape_is)) }

pub build_with-requires-then-shape-le512-clause-room : goal.build_with-requires-then-shape-le512-clause-room
build_with-requires-then-shape-le512-clause-room c =
    let p = c.args.policy in
    room-by_images p.bytes.now p.shape p.passed p.shape_is 32 512 c.if-shape-le32.true c.if-shape-le512.true

pub build_with-requires-then-shape-le32-clause-room : goal.build_with-requires-then-shape-le32-clause-room
build_with-requires-then-shape-le32-clause-room c =
    let p = c.args.policy in
    room-by_codes p.bytes.now p.shape p.passed p.shape_is 32 c.if-shape-le32.true

pub build_with-requires-then-shape-le3-2-clause-room : goal.build_with-requires-then-shape-le3-2-clause-room
build_with-requires-then-shape-le3-2-clause-room c =
    let p = c.args.policy in
    room-by-valuations p.bytes.now p.shape p.passed p.shape_is 3 136 c.if-shape-le3-2.true (width_most_law p.bytes.now p.shape p.passed p.shape_is)

pub build_with-requires-then-shape-le6-clause-room : goal.build_with-requires-then-shape-le6-clause-room
build_with-requires-then-shape-le6-clause-room c =
    let p = c.args.policy in
    room-by-valuations p.bytes.now p.shape p.passed p.shape_is 6 136 c.if-shape-le6.true (width_most_law p.bytes.now p.shape p.passed p.shape_is)

pub build_with-requires-2-clause-room : goal.build_with-requires-2-clause-room
build_with-requires-2-clause-room c =
    let p = c.args.policy in
    room-by_codes p.bytes.now p.shape p.passed p.shape_is 136 (width_most_law p.bytes.now p.shape p.passed p.shape_is)
