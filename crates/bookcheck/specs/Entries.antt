-- Row 14 as the code takes it: a book's entries in two tests.
use Rattle.std.specs.Prelude.{Bool, List, ℕ, zero, suc, max, min, ◌+◌, ◌*◌, leb}
use Rattle.automaton.specs.Below.{all_below}
use Rattle.definitions.specs.Bytes.{byte}
use Rattle.definitions.specs.Book.{events, width, states}

-- the greatest of the first k entries, counted through all rows
abbrev pub greatest : List ℕ → ℕ → ℕ
greatest b zero = 0
greatest b (suc k) = max (greatest b k) (byte b (12 + k))

-- code e is possible, in the row that begins at byte `at`
abbrev pub is_possible : List ℕ → ℕ → ℕ → Bool
is_possible b at e = leb 1 (byte b (at + e))

-- every event is, in row i counted from 0
abbrev pub row_possible : List ℕ → ℕ → Bool
row_possible b i = all_below (events b) (is_possible b (12 + i * width b))

abbrev pub events_possible : List ℕ → Bool
events_possible b = all_below (states b) (row_possible b)

-- the lesser of a byte and the entry of its column in the row that begins at byte `at`
abbrev pub lesser : List ℕ → List ℕ → ℕ → ℕ → ℕ
lesser least b at c = min (byte least c) (byte b (at + c))
