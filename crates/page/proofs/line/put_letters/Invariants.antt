use Prim.Native.Nat.{◌+◌}
use Rattle.automaton.specs.Below.{list_below}
use Rattle.text.specs.Put.{Put}
use Rattle.page.specs.LineColumns.{letter_in}
use Rattle.page.proofs.line.put_letters.Given as goal

abbrev pub invariant-loop-r : goal.invariant-loop-r
invariant-loop-r l = Put l.initial.line l.at (list_below l.r (letter_in l.row)) l.line (l.at + l.r)
