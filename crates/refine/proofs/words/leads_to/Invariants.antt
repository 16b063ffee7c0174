use Rattle.std.proofs.Common.{◌≡◌}
use Rattle.refine.specs.StateWords.{leads_to}
use Rattle.refine.proofs.words.leads_to.Given as goal

abbrev pub invariant-loop-x : goal.invariant-loop-x
invariant-loop-x l = l.word ≡ leads_to l.row l.x-index
