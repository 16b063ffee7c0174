-- `put_blanks` meets its contract: the bytes are filled.
use Rattle.page.proofs.PageColumns.{blanks_put}
use Rattle.page.proofs.line.put_blanks.Goals as goal

pub returns-clause-put : goal.returns-clause-put
returns-clause-put c = blanks_put _ _ _ _ c.requires (c.fill.ensures.after (λ y e. e))
