use Rattle.bookcheck.specs.Entries.{lesser}
use Rattle.automaton.proofs.FilledList.{FilledUpTo}
use Rattle.bookcheck.proofs.lower.Given as goal

abbrev pub invariant-loop-c : goal.invariant-loop-c
invariant-loop-c l = FilledUpTo (lesser l.initial.least l.bytes l.at) l.initial.least l.c l.least
