-- `greatest` meets its contract: `most` is the greatest of the entries passed.
use Rattle.std.proofs.Common.{arith}
use Rattle.bookcheck.proofs.Entries.{greatest_more, entry_after_header}
use Rattle.bookcheck.proofs.greatest.Goals as goal

pub loop-x-preserved : goal.loop-x-preserved
loop-x-preserved c =
    let b = c.args.bytes.now in
    let i = c.loop-x.x-index in
    greatest_more b i c.loop-x.most _ c.loop-x.invariant (rw (entry_after_header b i (omega arith)) at c.max-most.ensures)
