use mathlib.Core.Path.{◌≡◌}
use mathlib.Core.Bool.{false}
use Prim.Native.Nat.{◌+◌, ◌-◌}
use Rattle.automaton.specs.Below.{one}
use Rattle.findings.specs.Marks.{count_marks, Marks, FixedPoint}
use Rattle.findings.proofs.marks.mark.Given as goal

abbrev pub invariant-loop-gained : goal.invariant-loop-gained
invariant-loop-gained l = Marks l.book.bytes.now l.marks × (l.gained ≡ false → FixedPoint l.book.bytes.now l.marks)

abbrev pub decreases-loop-gained : goal.decreases-loop-gained
decreases-loop-gained l = 128 - count_marks l.marks + one l.gained
