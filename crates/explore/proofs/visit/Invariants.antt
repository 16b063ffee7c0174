use Rattle.explore.proofs.SituationVisits.{CodesTried}
use Rattle.explore.specs.Reaches.{Hinted}
use Rattle.explore.specs.SetImages.{images_machine}
use lib.ListN.{take}
use Prim.Native.Nat.{ℕ}
use Rattle.explore.proofs.visit.Given as goal

abbrev pub invariant-loop-c : goal.invariant-loop-c
invariant-loop-c l = record {
  tried : (start : ℕ)
      → CodesTried (images_machine l.images.sets.now l.images.valuations l.images.width start) l.fn.situation.set (take l.n l.initial.found) l.initial.found l.initial.row l.found l.row l.k l.c;
  hinted : Hinted (take l.k l.found) l.hints;
}
