use Rattle.automaton.proofs.FilledList.{FilledUpTo}
use Rattle.explore.specs.SetImages.{union_at}
use Rattle.explore.proofs.unite.Given as goal

abbrev pub invariant-loop-c : goal.invariant-loop-c
invariant-loop-c l = FilledUpTo (union_at l.initial.next l.more) l.initial.next l.c l.next
