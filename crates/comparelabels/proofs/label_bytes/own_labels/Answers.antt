-- `own_labels` meets its contract: the labels below u are filled with their own numbers.
use native.Mathlib.Omega.{arith}
use mathlib.Core.Path.{refl}
use Rattle.automaton.proofs.FilledList.{filled_turn}
use Rattle.comparelabels.proofs.label_bytes.own_labels.Goals as goal

pub loop-u-preserved : goal.loop-u-preserved
loop-u-preserved c = filled_turn c.loop-u.invariant (omega arith) refl
