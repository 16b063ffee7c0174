-- What the two byte formats share: numbers of two bytes, marks, versions, ranges, bits, products.
use Rattle.std.specs.Prelude.{Bool, ◌&&◌, List, ℕ, ◌+◌, ◌*◌, ◌/◌, ◌%◌, ◌^◌, leb, eqb, get_or}
use Rattle.automaton.specs.Below.{fold_below}

-- byte i of a file, a book or a part of one; 0 past its end
abbrev pub byte : List ℕ → ℕ → ℕ
byte bytes i = get_or bytes i 0

-- "Two-byte numbers have the high byte first"
abbrev pub two_bytes : List ℕ → ℕ → ℕ
two_bytes bytes i = byte bytes i * 256 + byte bytes (i + 1)

-- the first three bytes
abbrev pub has_mark : ℕ → ℕ → ℕ → List ℕ → Bool
has_mark x y z bytes = eqb (byte bytes 0) x && eqb (byte bytes 1) y && eqb (byte bytes 2) z

-- "version", in the two bytes after the mark
abbrev pub version : List ℕ → ℕ
version bytes = two_bytes bytes 3

abbrev pub within : ℕ → ℕ → ℕ → Bool
within low x high = leb low x && leb x high

-- "Bit v (worth 2 to the v)" of a mask, or of a set
abbrev pub bit : ℕ → ℕ → Bool
bit set v = eqb (set / 2 ^ v % 2) 1

-- f 0 × f 1 × .. × f (n - 1)
abbrev pub times : (ℕ → ℕ) → ℕ → ℕ → ℕ
times f i q = q * f i

abbrev pub product : ℕ → (ℕ → ℕ) → ℕ
product n f = fold_below n 1 (times f)
