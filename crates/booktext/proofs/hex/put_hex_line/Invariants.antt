use Rattle.booktext.specs.Hex.{byte_text}
use Rattle.booktext.proofs.hex.put_hex_line.Given as goal

abbrev pub ghost-put_each : goal.ghost-put_each
ghost-put_each a = record { text_of = byte_text; most = 2 }
