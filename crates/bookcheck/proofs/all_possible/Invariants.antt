use Rattle.std.proofs.Common.{◌≡◌, true}
use Rattle.automaton.specs.Below.{all_below}
use Rattle.bookcheck.specs.Entries.{is_possible}
use Rattle.bookcheck.proofs.all_possible.Given as goal

abbrev pub invariant-loop-x : goal.invariant-loop-x
invariant-loop-x l = all_below l.x-index (is_possible l.bytes l.at) ≡ true
