use Rattle.std.proofs.Common.{◌≡◌, take}
use Rattle.automaton.specs.Below.{fold_below}
use Rattle.definitions.specs.Situation.{empty_set}
use Rattle.refine.specs.NextClasses.{next_classes}
use Rattle.refine.specs.StateWords.{with_moved}
use Rattle.refine.proofs.Round.divide.Given as goal

abbrev pub invariant-loop-s : goal.invariant-loop-s
invariant-loop-s l =
    (take l.s l.next ≡ take l.s (next_classes l.self)) × (l.word ≡ fold_below l.s empty_set (with_moved l.self.classes.now (next_classes l.self)))
