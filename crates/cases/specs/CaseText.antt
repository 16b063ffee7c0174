-- The line that the program writes for a policy: its book in hexadecimal, or the number of a refusal.
use Rattle.std.specs.Prelude.{List, ℕ}
use Rattle.booktext.specs.Hex.{hex_line}
use Rattle.policytext.specs.PolicyText.{refusal_or}

abbrev pub case_text : List ℕ → List ℕ
case_text p = refusal_or hex_line p
