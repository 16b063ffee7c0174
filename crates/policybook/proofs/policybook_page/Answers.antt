-- `policybook_page` meets its contract: a page is small enough for its length to be packed, as a book is.
use Rattle.std.proofs.lemmas.Result.{IfOk-weaker}
use native.Mathlib.Omega.{arith}
use Rattle.packing.proofs.PackedBounds.{paged_within}
use Rattle.policybook.proofs.policybook_page.Goals as goal

pub pack_length-requires : goal.pack_length-requires
pack_length-requires c = IfOk-weaker c.page.result _ _ (λ n l. omega arith) (paged_within _ _ c.page.result c.page.ensures.answer)
