-- `same_tail` meets its contract.
use Rattle.samebytes.proofs.SameBytes.{part_differs}
use Rattle.samebytes.proofs.same_tail.Goals as goal

pub returns-then-byte_differences-ne0 : goal.returns-then-byte_differences-ne0
returns-then-byte_differences-ne0 c =
    let a = c.args in
    part_differs a.first.now a.second.now 4 a.from (λ same. c.if-byte_differences-ne0.true (c.byte_differences.ensures.1 same))
