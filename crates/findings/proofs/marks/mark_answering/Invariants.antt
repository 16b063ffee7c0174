use mathlib.Core.Path.{◌≡◌}
use Prim.Native.Nat.{ℕ, ◌≤◌, ◌<◌}
use Rattle.definitions.specs.Telling.{some_request, answered}
use Rattle.findings.specs.Marks.{marked}
use Rattle.findings.proofs.marks.mark_answering.Given as goal

abbrev pub invariant-loop-s : goal.invariant-loop-s
invariant-loop-s l = (t : ℕ) → 1 ≤ t → t < l.s → marked l.marks t ≡ some_request answered l.book.bytes.now t
