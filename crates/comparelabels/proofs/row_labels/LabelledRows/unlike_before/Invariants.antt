use Rattle.comparelabels.specs.RowLabels.{SameLabel}
use Rattle.comparelabels.proofs.FirstFailing.{Throughout}
use Rattle.comparelabels.proofs.row_labels.LabelledRows.unlike_before.Given as goal

abbrev pub invariant-loop-k : goal.invariant-loop-k
invariant-loop-k l = let rows = l.self in Throughout (SameLabel rows.one.now rows.other.now rows.base rows.label.now) l.from l.k
