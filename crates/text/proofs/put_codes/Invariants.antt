use Rattle.text.proofs.Each.{code_text}
use Rattle.text.proofs.put_codes.Given as goal

abbrev pub ghost-put_each : goal.ghost-put_each
ghost-put_each a = record { text_of = code_text; most = 4 }
