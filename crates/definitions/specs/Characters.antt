-- Characters between the parts of a text.
use Rattle.std.specs.Prelude.{ℕ}

abbrev pub blank : ℕ
blank = 32

abbrev pub newline : ℕ
newline = 10
