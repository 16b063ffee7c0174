use Prim.Native.Nat.{◌-◌}
use lib.ListN.{length}
use Rattle.streams.proofs.Pieces.{BytesCame}
use Rattle.streams.proofs.read_input.Given as goal

abbrev pub invariant-loop-length : goal.invariant-loop-length
invariant-loop-length l = BytesCame l.length l.initial.buffer l.buffer

abbrev pub decreases-loop-length : goal.decreases-loop-length
decreases-loop-length l = length l.buffer - l.length
