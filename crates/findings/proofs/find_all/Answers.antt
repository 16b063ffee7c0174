-- `find_all` meets its contract: the book is explored once, and the three findings are those over the states found.
use Rattle.findings.proofs.FindingsAre.{findings-are, histories-are}
use Rattle.findings.proofs.find_all.Goals as goal

pub returns-clause-answer : goal.returns-clause-answer
returns-clause-answer c =
    rw c.new-book.ensures at (findings-are _ _ _ _ c.find-first.ensures.answer c.find-second.ensures.answer c.find_blocked-third.ensures.answer)

pub returns-clause-conflict_after : goal.returns-clause-conflict_after
returns-clause-conflict_after c =
    rw c.new-book.ensures at (histories-are _ _ _ _ _ c.find-first.ensures.buffer_after c.find-second.ensures.buffer_after).0

pub returns-clause-missing_after : goal.returns-clause-missing_after
returns-clause-missing_after c =
    rw c.new-book.ensures at (histories-are _ _ _ _ _ c.find-first.ensures.buffer_after c.find-second.ensures.buffer_after).1
