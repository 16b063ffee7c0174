use Rattle.std.proofs.Common.{◌≡◌, true}
use Rattle.automaton.specs.Below.{all_below}
use Rattle.bookcheck.specs.Entries.{row_possible}
use Rattle.bookcheck.proofs.possible_by_rows.Given as goal

abbrev pub invariant-loop-i : goal.invariant-loop-i
invariant-loop-i l = all_below l.i (row_possible l.layout.bytes.now) ≡ true
