-- `policybook_way` meets its contract: what way answers is small enough to be packed.
use lib.ListN.{length}
use Rattle.packing.specs.PackedBounds.{HistoryWithin}
use Rattle.packing.proofs.PackedBounds.{shown-within}
use Rattle.policybook.proofs.policybook_way.Goals.{After-way}
use Rattle.policybook.proofs.policybook_way.Goals as goal

within : (c : After-way) → HistoryWithin 128 c.way.result × HistoryWithin (length c.way.new.history) c.way.result
within c = shown-within _ _ _ _ c.way.result c.way.new.history c.way.auto.history c.way.ensures.answer

pub pack_way-requires : goal.pack_way-requires
pack_way-requires c = (within (goal.at.pack_way-requires c).After-way).0

pub returns-clause-value : goal.returns-clause-value
returns-clause-value c =
    let called = c.way in rw (← called.ensures.answer) (c.pack_way.ensures called.new.history (within (goal.at.returns-clause-value c).After-way).1)
