-- `put_play` meets its contract: the line of a refused opening alone, and the lines of the steps after that of an opened book.
use native.Mathlib.Omega.{arith}
use Rattle.text.proofs.Puts.{then}
use Rattle.play.proofs.StepLines.{open_stands, only_opened, all_played}
use Rattle.play.proofs.steps.put_play.Goals as goal

pub put_answer-at-requires : goal.put_answer-at-requires
put_answer-at-requires c =
    let opened = c.open-opened.ensures in
    (open_stands c.args.book.now c.open-opened.result opened.refusal opened.state, omega (arith, c.requires))

pub put_steps-requires : goal.put_steps-requires
put_steps-requires c =
    let put = c.put_answer-at.ensures in
    (rw c.in-Ok.is at (open_stands c.args.book.now c.open-opened.result c.open-opened.ensures.refusal c.open-opened.ensures.state), omega (arith, put.1, c.put_answer-at.auto.out, c.requires))

pub returns-in-Ok : goal.returns-in-Ok
returns-in-Ok c =
    let put = c.put_answer-at.ensures in
    let steps = c.put_steps.ensures in
    let opened = c.in-Ok.ensures in
    (rw (← all_played c.args.book.now c.args.codes.now c.in-Ok.start opened.refusal opened.state) (then (rw c.in-Ok.is at put.0) steps.0), omega (arith, put.1, steps.1))

pub returns-in-Err : goal.returns-in-Err
returns-in-Err c =
    let put = c.put_answer-at.ensures in
    (rw (← only_opened c.args.book.now c.args.codes.now _ c.in-Err.ensures.refusal) (rw c.in-Err.is at put.0), omega (arith, put.1))
