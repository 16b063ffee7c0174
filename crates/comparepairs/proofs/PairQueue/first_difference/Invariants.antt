use mathlib.Core.Path.{◌≡◌}
use Prim.Native.Nat.{◌+◌, ◌-◌}
use Rattle.definitions.specs.Book.{states}
use Rattle.comparepairs.specs.Pairs.{SearchAt}
use Rattle.comparepairs.proofs.PairQueue.first_difference.Given as goal

abbrev pub invariant-loop-i : goal.invariant-loop-i
invariant-loop-i l =
    SearchAt l.first.bytes.now l.second.bytes.now l.i 0 l.self
    × ((l.self.queue.ghost_name ≡ l.initial.self.queue.ghost_name) × (l.self.label.ghost_name ≡ l.initial.self.label.ghost_name))

abbrev pub decreases-loop-i : goal.decreases-loop-i
decreases-loop-i l = states l.first.bytes.now + 1 + states l.second.bytes.now - l.i
