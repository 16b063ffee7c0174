-- `frame_of` meets its contract: the front, then the counts of the fields.
use native.Mathlib.Omega.{arith}
use Rattle.build.proofs.PolicyFrame.{frame-laid}
use Rattle.build.proofs.frame_of.Goals as goal

pub returns : goal.returns
returns c =
    let few = rw c.fields.ensures.0 at c.min-present.ensures in
    frame-laid c.args.policy.now c.requires.1 c.min-present.result few _ _ _ _ (omega arith) (omega arith) c.copy_from_slice.ensures.after
    c.copy_from_slice-2.ensures.after
