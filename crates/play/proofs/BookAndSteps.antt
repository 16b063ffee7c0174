-- The book and the codes of an input, taken out part by part.
use mathlib.Core.Path.{◌≡◌}
use mathlib.Core.List.{List}
use Prim.Native.Nat.{ℕ}
use lib.ListN.{take, drop}
use Rattle.definitions.specs.Bytes.{two_bytes}
use Rattle.play.specs.Play.{play_lines, play_text}

pub input_read : (input rest book tail codes : List ℕ) (n : ℕ) → rest ≡ drop 2 input → n ≡ two_bytes input 0 → book ≡ take n rest → tail ≡ drop n rest → codes ≡ take 255 tail
    → play_lines book codes ≡ play_text input
unfolding play_text
input_read input rest book tail codes n er en eb et ec = rw (ec, eb, et, er, en)
