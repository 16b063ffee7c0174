-- `policybook_verdict` meets its contract: what verdict answers is small enough to be packed.
use lib.ListN.{length}
use Rattle.verdict.specs.AnswerBounds.{JudgedWithin}
use Rattle.verdict.proofs.AnswerBounds.{judged-within}
use Rattle.policybook.proofs.policybook_verdict.Goals.{After-verdict}
use Rattle.policybook.proofs.policybook_verdict.Goals as goal

within : (c : After-verdict)
    → JudgedWithin 128 128 128 c.verdict.result × JudgedWithin (length c.verdict.new.conflict) (length c.verdict.new.missing) (length c.verdict.new.blocked) c.verdict.result
within c =
    let after = c.verdict.new in
    let kept = c.verdict.auto in
    judged-within _ _ _ _ c.verdict.result after.conflict after.missing after.blocked kept.conflict kept.missing kept.blocked c.verdict.ensures.answer

pub pack_verdict-requires : goal.pack_verdict-requires
pack_verdict-requires c = (within (goal.at.pack_verdict-requires c).After-verdict).0

pub returns-clause-value : goal.returns-clause-value
returns-clause-value c =
    let called = c.verdict in
    let new = called.new in
    rw (← called.ensures.answer) (c.pack_verdict.ensures new.conflict new.missing new.blocked (within (goal.at.returns-clause-value c).After-verdict).1)
