use Rattle.std.proofs.Common.{◌≡◌, ℕ, ◌<◌}
use Rattle.definitions.specs.Bytes.{byte}
use Rattle.refine.proofs.same_classes.Given as goal

abbrev pub invariant-loop-c : goal.invariant-loop-c
invariant-loop-c l = (k : ℕ) → k < l.c → byte l.classes (byte l.row k) ≡ byte l.classes (byte l.other k)
