use Rattle.std.proofs.Common.{◌≡◌}
use Rattle.bookcheck.specs.Entries.{greatest}
use Rattle.bookcheck.proofs.greatest.Given as goal

abbrev pub invariant-loop-x : goal.invariant-loop-x
invariant-loop-x l = l.most ≡ greatest l.bytes l.x-index
