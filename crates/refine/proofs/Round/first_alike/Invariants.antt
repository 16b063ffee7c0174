use Rattle.std.proofs.Common.{◌≤◌}
use Rattle.definitions.specs.Bytes.{byte}
use Rattle.refine.specs.NextClasses.{next_classes}
use Rattle.refine.proofs.Round.first_alike.Given as goal

abbrev pub invariant-loop-t : goal.invariant-loop-t
invariant-loop-t l = l.t ≤ byte (next_classes l.self) l.s
