-- `policy::part::rule` meets its contract: the record lies in the table.
use Rattle.policy.proofs.Parts.{rule-is, rule_part}
use Rattle.policy.proofs.part.rule.Goals as goal

pub returns : goal.returns
returns c =
    let p = c.args.policy.now in
    let t = c.args.table.now in
    let size = c.rule_size in
    (rule-is p t size.result c.args.k c.requires.0 size.ensures.0, rule_part p t size.result c.args.k c.requires.0 size.ensures.0)
