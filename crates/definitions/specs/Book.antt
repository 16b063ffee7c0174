-- The book: its bytes, and a book as a machine whose states are the numbers of its rows.
use Rattle.std.specs.Prelude.{List, [], ◌∷◌, ◌++◌, ℕ, ◌+◌, ◌-◌, ◌*◌, length, take, drop}
use Rattle.automaton.specs.Machine.{Machine}
use Rattle.definitions.specs.Bytes.{byte, product}

abbrev pub concat : List (List ℕ) → List ℕ
concat [] = []
concat (row ∷ rows) = row ++ concat rows

-- "Mark BOK, version 1 in two bytes, E, F, four value counts, the number of states n, then n rows"
abbrev pub book_bytes : List ℕ → List (List ℕ) → List ℕ
book_bytes frame rows = 0x42 ∷ 0x4F ∷ 0x4B ∷ 0 ∷ 1 ∷ frame ++ (length rows ∷ concat rows)

-- ---- any bytes b read as a book
abbrev pub events : List ℕ → ℕ
events b = byte b 5

abbrev pub fields : List ℕ → ℕ
fields b = byte b 6

abbrev pub count : List ℕ → ℕ → ℕ
count b f = byte b (7 + f)

abbrev pub frame : List ℕ → List ℕ
frame b = take 6 (drop 5 b)

abbrev pub requests : List ℕ → ℕ
requests b = product (fields b) (count b)

abbrev pub width : List ℕ → ℕ
width b = events b + 2 * requests b

-- n
abbrev pub states : List ℕ → ℕ
states b = byte b 11

-- row s and what is after it
abbrev pub book_row : List ℕ → ℕ → List ℕ
book_row b s = drop (12 + (s - 1) * width b) b

-- "Entry c of row s is the state after code c, 0 if not possible"
abbrev pub entry : List ℕ → ℕ → ℕ → ℕ
entry b s c = byte (book_row b s) c

-- "A history is possible in a book if its codes, taken one after another from state 1, meet no entry 0"
abbrev pub book_machine : List ℕ → Machine
book_machine b = record { width = width b; start = 1; next = entry b }
