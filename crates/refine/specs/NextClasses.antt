-- The classes after a round, of a round as it begins.
use Rattle.std.specs.Prelude.{List, ℕ}
use Rattle.refine.specs.Rounds.{next_round}
use Rattle.refine.specs.declared.Round.{Round}

abbrev pub next_classes : Round → List ℕ
next_classes round = next_round round.table.rows.now round.table.width round.classes.now
