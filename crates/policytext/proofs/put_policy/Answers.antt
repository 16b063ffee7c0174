-- `put_policy` puts the text by what build answers: its buffer has room for every book.
use mathlib.Core.Path.{◌∙◌}
use native.Mathlib.Omega.{arith}
use Rattle.booktext.specs.Forms.{text_of}
use Rattle.policytext.proofs.PolicyText.{refused-text, given-text, given-passes}
use Rattle.policytext.proofs.put_policy.Goals as goal

pub new-requires : goal.new-requires
new-requires c =
    let u = c.in-Ok.ensures in rw c.first.ensures.result_value (given-passes _ _ (omega arith) u.answer u.book)

pub returns-in-Err-clause-put : goal.returns-in-Err-clause-put
returns-in-Err-clause-put c =
    rw (← refused-text _ _ (omega arith) (text_of c.args.form) c.in-Err.ensures.answer) (rw (c.from.ensures ∙ c.number.ensures) at c.put_number_line.ensures.put)

pub returns-in-Ok-clause-put : goal.returns-in-Ok-clause-put
returns-in-Ok-clause-put c =
    let u = c.in-Ok.ensures in
    rw (← given-text _ _ (omega arith) u.answer u.book (text_of c.args.form)) (rw (c.new.ensures, c.first.ensures.result_value) at c.put_text.ensures.put)
