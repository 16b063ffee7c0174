use Prim.Native.Nat.{◌-◌, ◌≤◌}
use lib.ListN.{length}
use Rattle.comparelabels.specs.LabelBytes.{label_at}
use Rattle.comparelabels.specs.RowLabels.{SameLabel}
use Rattle.comparelabels.proofs.FirstFailing.{Throughout}
use Rattle.comparelabels.proofs.row_labels.first_unlike.Given as goal

abbrev pub invariant-loop-k : goal.invariant-loop-k
invariant-loop-k l = (l.from ≤ l.k) × (l.k ≤ length l.one) × Throughout (SameLabel l.one l.other (label_at l.label 0) l.label) l.from l.k

abbrev pub decreases-loop-k : goal.decreases-loop-k
decreases-loop-k l = length l.one - l.k
