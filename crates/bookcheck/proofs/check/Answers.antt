-- `check` meets its contract: row 12 is judged first.
use Rattle.definitions.specs.Refusal.{book_refusal}
use Rattle.definitions.proofs.Tests.{failed}
use Rattle.bookcheck.proofs.check.Goals as goal

pub returns-then-not-is_marked-clause-refusal : goal.returns-then-not-is_marked-clause-refusal
unfolding book_refusal
returns-then-not-is_marked-clause-refusal c = simp (failed _ _ c.is_marked.ensures c.if-not-is_marked.true)
