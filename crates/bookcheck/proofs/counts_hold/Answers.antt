-- `counts_hold` meets its contract: the four counts hold.
use Rattle.std.proofs.Common.{◌≡◌, sym, arith}
use Rattle.bookcheck.proofs.counts_hold.Goals as goal

pub returns : goal.returns
returns c = let e : c.loop-f.f ≡ 4 = omega arith in sym (rw e at c.loop-f.invariant)
