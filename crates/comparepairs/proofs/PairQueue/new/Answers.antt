-- `new` meets its contract: the pair of the two starts is the first.
use Rattle.std.proofs.Common.{rules}
use mathlib.Core.Path.{refl}
use native.Mathlib.Omega.{arith}
use Rattle.comparepairs.proofs.QueueBytes.{left-put, right-put}
use Rattle.comparepairs.proofs.PairQueue.new.Goals as goal

pub returns-clause-begun : goal.returns-clause-begun
returns-clause-begun c =
    let q = c.args.queue.now in
    let long = c.begin_labels.auto.label in
    record {
      one_pair = refl;
      left = rw (c.put.ensures, long) (left-put _ q (omega (arith, c.requires.sizes)) (omega (arith, c.requires.room)) 1 1);
      right = rw (c.put.ensures, long) (right-put _ q (omega (arith, c.requires.sizes)) (omega (arith, c.requires.room)) 1 1);
      labels = search rules;
    }
