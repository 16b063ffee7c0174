use Prim.Native.Nat.{◌-◌}
use Rattle.way.proofs.FirstStates.{SearchedFor}
use Rattle.way.proofs.first.first_state.Given as goal

abbrev pub invariant-loop-i : goal.invariant-loop-i
invariant-loop-i g l = SearchedFor l.goal l.i l.level.length l.level.end l.search

abbrev pub decreases-loop-i : goal.decreases-loop-i
decreases-loop-i g l = 128 - l.i
