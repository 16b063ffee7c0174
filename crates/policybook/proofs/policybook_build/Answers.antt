-- `policybook_build` meets its contract: a book is small enough for its length to be packed.
use Rattle.packing.proofs.PackedBounds.{built_within}
use Rattle.policybook.proofs.policybook_build.Goals as goal

pub pack_length-requires : goal.pack_length-requires
pack_length-requires c = built_within _ _ c.build.result c.build.ensures.answer
