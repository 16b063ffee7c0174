use Rattle.std.proofs.Common.{◌≡◌, take}
use Rattle.definitions.specs.Rows.{laid}
use Rattle.join.specs.Numbers.{numbered_rows}
use Rattle.join.proofs.write_rows.Given as goal

abbrev pub invariant-loop-i : goal.invariant-loop-i
invariant-loop-i l = l.book ≡ laid 12 (take l.i (numbered_rows l.table.rows.now l.table.width l.numbers l.order)) l.initial.book
