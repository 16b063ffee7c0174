-- `policy_text` leaves the text in a buffer that is long enough.
use native.Mathlib.Omega.{arith}
use Rattle.text.proofs.Room.{long-enough}
use Rattle.booktext.specs.Forms.{room_of}
use Rattle.policytext.proofs.policy_text.Goals as goal

pub returns-clause-out_after : goal.returns-clause-out_after
returns-clause-out_after c =
    let put = c.put_policy.ensures in (long-enough (room_of c.args.form) _ _ (omega arith) put.upper_bound put.put).1.0
