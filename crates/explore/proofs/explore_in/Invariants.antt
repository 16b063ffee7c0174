use Rattle.explore.proofs.ReachedStates.{StatesReached}
use Rattle.explore.specs.Reaches.{Hinted, all_reached}
use Rattle.explore.specs.SetImages.{images_machine}
use lib.ListN.{take}
use Prim.Native.Nat.{◌-◌}
use Rattle.explore.proofs.explore_in.Given as goal

abbrev pub invariant-loop-s : goal.invariant-loop-s
invariant-loop-s l =
    let m = images_machine l.images.sets.now l.images.valuations l.images.width l.fn.start.set in record {
      reached : StatesReached m (all_reached m) l.initial.found l.initial.raw l.found l.raw l.n l.s;
      hinted : Hinted (take l.n l.found) l.hints;
    }

abbrev pub decreases-loop-s : goal.decreases-loop-s
decreases-loop-s l = 128 - l.s
