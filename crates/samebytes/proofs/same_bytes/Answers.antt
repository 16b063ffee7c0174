-- `same_bytes` meets its contract: the words passed so far are equal.
use mathlib.Core.Path.{ap}
use native.Mathlib.Omega.{arith}
use lib.ListN.{length}
use Rattle.automaton.proofs.Below.{same-list_no}
use Rattle.samebytes.proofs.SameBytes.{more_read, part_differs}
use Rattle.samebytes.proofs.same_bytes.Goals as goal

pub returns-then-first-second : goal.returns-then-first-second
returns-then-first-second c =
    let a = c.args in
    same-list_no a.first.now a.second.now (λ e. omega (arith, ap length e))

pub returns-then-word_differences-ne0 : goal.returns-then-word_differences-ne0
returns-then-word_differences-ne0 c =
    let a = c.args in
    part_differs a.first.now a.second.now 64 c.loop-k.k (λ same. c.if-word_differences-ne0.true (c.word_differences.ensures.1 same))

pub loop-k-preserved : goal.loop-k-preserved
loop-k-preserved c =
    let a = c.args in
    let l = c.loop-k in
    more_read a.first.now a.second.now l.k 64 l.invariant (omega arith) (c.word_differences.ensures.0 c.if-word_differences-ne0.false)
