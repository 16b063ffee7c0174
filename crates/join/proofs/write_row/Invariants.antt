use Rattle.std.proofs.Common.{◌≡◌}
use Rattle.definitions.specs.Answer.{written}
use Rattle.definitions.specs.Rows.{looked_up}
use Rattle.join.proofs.write_row.Given as goal

abbrev pub invariant-loop-c : goal.invariant-loop-c
invariant-loop-c l = l.row ≡ written (looked_up l.numbers l.c l.entries) l.initial.row
