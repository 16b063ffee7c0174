-- `policybook_compare` meets its contract: what compare answers is small enough to be packed.
use lib.ListN.{length}
use Rattle.packing.specs.PackedBounds.{HistoryWithin}
use Rattle.packing.proofs.PackedBounds.{compared-within}
use Rattle.policybook.proofs.policybook_compare.Goals.{After-compare}
use Rattle.policybook.proofs.policybook_compare.Goals as goal

within : (c : After-compare) → HistoryWithin 256 c.compare.result × HistoryWithin (length c.compare.new.history) c.compare.result
within c = compared-within _ _ _ c.compare.result c.compare.new.history c.compare.auto.history c.compare.ensures.answer

pub pack_compare-requires : goal.pack_compare-requires
pack_compare-requires c = (within (goal.at.pack_compare-requires c).After-compare).0

pub returns-clause-value : goal.returns-clause-value
returns-clause-value c =
    let called = c.compare in rw (← called.ensures.answer) (c.pack_compare.ensures called.new.history (within (goal.at.returns-clause-value c).After-compare).1)
