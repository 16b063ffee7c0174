use Rattle.comparelabels.specs.LabelBytes.{itself}
use Rattle.automaton.proofs.FilledList.{FilledUpTo}
use Rattle.comparelabels.proofs.label_bytes.own_labels.Given as goal

abbrev pub invariant-loop-u : goal.invariant-loop-u
invariant-loop-u l = FilledUpTo itself l.initial.label l.u l.label
