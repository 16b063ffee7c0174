use mathlib.Core.Path.{◌≡◌}
use Prim.Native.Nat.{◌-◌, ◌≤◌}
use lib.ListN.{length}
use Rattle.comparepairs.proofs.PairSearch.{Trying}
use Rattle.comparepairs.proofs.PairQueue.try_pair.Given as goal

abbrev pub invariant-loop-other : goal.invariant-loop-other
invariant-loop-other l =
    Trying l.first.bytes.now l.second.bytes.now l.self.pairs l.i l.c l.one l.other l.self.queue.now l.self.label.now
    × ((l.c ≤ length l.one)
    × ((l.self.queue.ghost_name ≡ l.initial.self.queue.ghost_name) × (l.self.label.ghost_name ≡ l.initial.self.label.ghost_name)))

abbrev pub decreases-loop-other : goal.decreases-loop-other
decreases-loop-other l = length l.one - l.c
