-- Bytes read eight at a time as one number, the first lowest; and parts of two strings that are the same, wherever they stand.
use Rattle.std.specs.Prelude.{◌≡◌, List, ℕ, ◌+◌, ◌*◌, ◌<◌, get_or}

-- four bytes from place k on
abbrev pub half_at : List ℕ → ℕ → ℕ
half_at l k = get_or l k 0 + 0x100 * get_or l (k + 1) 0 + 0x10000 * get_or l (k + 2) 0 + 0x1000000 * get_or l (k + 3) 0

-- eight
abbrev pub word_at : List ℕ → ℕ → ℕ
word_at l k = half_at l k + 0x100000000 * half_at l (k + 4)

-- the four numbers, and the eight, are bytes
abbrev pub HalfBytes : List ℕ → ℕ → Type 0
HalfBytes l k = (get_or l k 0 < 256) × (get_or l (k + 1) 0 < 256) × (get_or l (k + 2) 0 < 256) × (get_or l (k + 3) 0 < 256)

abbrev pub WordBytes : List ℕ → ℕ → Type 0
WordBytes l k = HalfBytes l k × HalfBytes l (k + 4)

-- n numbers of xs from place j on are those of ys from place k on
abbrev pub SamePart : ℕ → List ℕ → ℕ → List ℕ → ℕ → Type 0
SamePart n xs j ys k = (i : ℕ) → i < n → get_or xs (j + i) 0 ≡ get_or ys (k + i) 0
