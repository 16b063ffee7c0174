use Rattle.refine.specs.StateWords.{RowWords}
use Rattle.refine.proofs.words.fill_leads.Given as goal

abbrev pub invariant-loop-i : goal.invariant-loop-i
invariant-loop-i l = RowWords l.table.rows.now l.table.width l.i l.leads
