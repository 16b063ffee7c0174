use Rattle.std.proofs.Common.{◌≡◌, true}
use Rattle.automaton.specs.Below.{all_below}
use Rattle.definitions.specs.Refusal.{count_holds}
use Rattle.bookcheck.proofs.counts_hold.Given as goal

abbrev pub invariant-loop-f : goal.invariant-loop-f
invariant-loop-f l = all_below l.f (count_holds l.bytes) ≡ true
