-- `same_classes` meets its contract: the entries passed so far lead to the same classes.
use Rattle.std.proofs.Common.{arith}
use Rattle.definitions.specs.Bytes.{byte}
use Rattle.refine.proofs.Rounds.{classes-equal, classes-differ}
use Rattle.refine.proofs.same_classes.Goals as goal

pub returns-then-classes-from : goal.returns-then-classes-from
returns-then-classes-from c =
    let a = c.args in
    classes-differ (byte a.classes.now) a.row.now a.other.now c.requires.0 c.loop-c.c c.loop-c-test.true (rw (c.from.ensures, c.from-in-loop-c.ensures) at c.if-classes-from.true)

pub returns : goal.returns
returns c =
    let a = c.args in
    classes-equal (byte a.classes.now) a.row.now a.other.now c.requires.0 (λ k l. c.loop-c.invariant k (omega arith))
