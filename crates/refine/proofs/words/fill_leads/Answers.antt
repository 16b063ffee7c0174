-- `fill_leads` meets its contract: the rows passed so far have their words.
use Rattle.std.proofs.Common.{◌≡◌, ◌+◌, ◌-◌, ◌∙◌, arith}
use Rattle.refine.proofs.StateWords.{row-word-of, words_more}
use Rattle.refine.proofs.words.fill_leads.Goals as goal

pub loop-i-preserved : goal.loop-i-preserved
loop-i-preserved c =
    let t = c.args.table in
    let l = c.loop-i in
    let here : l.i + 1 - 1 ≡ l.i = omega arith in
    words_more t.rows.now t.width l.leads l.i c.leads_to.result l.invariant (omega arith)
    (c.leads_to.ensures ∙ row-word-of t.rows.now t.width l.i c.row.result.now (rw here at c.row.ensures.value) c.row.ensures.entries.0)
