-- Bytes in hexadecimal.
use Rattle.std.specs.Prelude.{cond, List, [], ◌∷◌, ◌++◌, ℕ, ◌+◌, ◌/◌, ◌%◌, ltb}
use Rattle.definitions.specs.Characters.{newline}
use Rattle.text.specs.Each.{each_text}

-- 0 to 9, A to F
abbrev pub hex_digit : ℕ → ℕ
hex_digit n = cond (ltb n 10) (48 + n) (55 + n)

abbrev pub byte_text : ℕ → List ℕ
byte_text b = hex_digit (b / 16) ∷ hex_digit (b % 16) ∷ []

-- two digits for each byte
abbrev pub hex_line : List ℕ → List ℕ
hex_line bytes = each_text byte_text bytes ++ (newline ∷ [])
