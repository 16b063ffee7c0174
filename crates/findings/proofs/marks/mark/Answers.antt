-- `mark` meets its contract: a round that marks a state makes the marks more.
use mathlib.Core.Path.{◌≡◌, ap}
use native.Mathlib.Omega.{arith}
use Rattle.automaton.specs.Below.{one}
use Rattle.findings.proofs.MarkRounds.{count-few}
use Rattle.findings.proofs.marks.mark.Goals as goal

pub loop-gained-smaller : goal.loop-gained-smaller
loop-gained-smaller c =
    let gained : one c.loop-gained.gained ≡ 1 = ap one c.loop-gained-test.true in
    omega (arith, gained, c.mark_round-gained.ensures.marks.1, count-few c.mark_round-gained.new.marks)
