use Rattle.comparelabels.specs.LabelBytes.{moved}
use Rattle.automaton.proofs.FilledList.{FilledUpTo, elsewhere}
use Rattle.comparelabels.proofs.label_bytes.relabel.Given as goal

abbrev pub invariant-loop-l : goal.invariant-loop-l
invariant-loop-l l = FilledUpTo (elsewhere (moved l.from l.to) l.initial.label) l.initial.label l.l-index l.label
