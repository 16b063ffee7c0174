-- `play` meets its contract: a short buffer, and one with room for every text.
use native.Mathlib.Omega.{arith}
use Rattle.text.proofs.Room.{long-enough}
use Rattle.play.specs.Play.{play_text}
use Rattle.play.proofs.BookAndSteps.{input_read}
use Rattle.play.proofs.input.play.Goals as goal

pub returns : goal.returns
returns c =
    let put = c.put_play.ensures in
    let read = input_read c.args.input.now _ _ _ _ _ c.without-rest.ensures c.two_bytes-length.ensures c.first.ensures.result_value c.without.ensures c.first-2.ensures.result_value in
    let all = long-enough 131072 (play_text c.args.input.now) c.args.out.now c.if-out-lt131072.false (omega (arith, put.1, c.first-2.ensures)) (rw read at put.0) in
    record { value = all.0; out_after = all.1.0; upper_bound = all.1.1 }
