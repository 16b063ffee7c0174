use mathlib.Core.Path.{◌≡◌}
use Prim.Native.Nat.{◌≤◌, ◌/◌, ◌^◌}
use lib.ListN.{length}
use Rattle.images.specs.Choice.{Chosen}
use Rattle.images.proofs.deciding.choose.Given as goal

abbrev pub invariant-loop-rest : goal.invariant-loop-rest
invariant-loop-rest l = (l.k ≤ length l.ranks) × (l.rest ≡ l.fits / 2 ^ l.k) × Chosen l.fits l.ranks l.targets l.k l.choice

abbrev pub decreases-loop-rest : goal.decreases-loop-rest
decreases-loop-rest l = l.rest
