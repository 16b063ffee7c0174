-- `lower` meets its contract: the bytes passed so far are lowered.
use Rattle.std.proofs.Common.{◌≡◌, length, arith}
use Rattle.automaton.proofs.FilledList.{filled_done}
use Rattle.bookcheck.proofs.lower.Goals as goal

pub returns : goal.returns
returns c =
    let eight : length c.args.least.now ≡ 8 = c.requires.0 in
    rw eight at (filled_done c.loop-c.invariant (omega arith))
