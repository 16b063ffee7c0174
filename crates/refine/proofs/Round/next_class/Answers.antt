-- `next_class` meets its contract: the class of a state is a state that is not after it.
use Rattle.std.proofs.Common.{arith}
use Rattle.refine.proofs.Rounds.{some-begins, some-low}
use Rattle.refine.proofs.Round.next_class.Goals as goal

pub bounds-self-t : goal.bounds-self-t
bounds-self-t c =
    let now = c.args.self.now in
    let s = c.requires.s_in_bounds in
    omega (arith, some-begins now.in_rounds c.args.s s.0 s.1, some-low now.in_rounds c.args.s s.0 s.1, now.kept.words)
