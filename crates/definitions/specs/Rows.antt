-- Tables as bytes: rows of w entries, one after another.
use Rattle.std.specs.Prelude.{List, ◌++◌, map, ℕ, ◌+◌, ◌*◌, ◌<◌, ◌≤◌, length, take, drop}
use Rattle.automaton.specs.Below.{list_below}
use Rattle.definitions.specs.Bytes.{byte}
use Rattle.definitions.specs.Book.{concat}

-- row s, counted from 0
abbrev pub row_in : List ℕ → ℕ → ℕ → List ℕ
row_in bytes w s = take w (drop (s * w) bytes)

abbrev pub rows_in : List ℕ → ℕ → ℕ → List (List ℕ)
rows_in bytes n w = list_below n (row_in bytes w)

-- the first w entries of a row, each looked up in a table
abbrev pub looked_up : List ℕ → ℕ → List ℕ → List ℕ
looked_up table w row = map (byte table) (take w row)

-- rows after the first h bytes of a buffer
abbrev pub laid : ℕ → List (List ℕ) → List ℕ → List ℕ
laid h rows buffer = take h buffer ++ (concat rows ++ drop (h + length (concat rows)) buffer)

-- n rows of w entries, each the number of a row or 0
pub record TableIn (raw : List ℕ) (n w : ℕ) : Type 0 where
  pub some : 1 ≤ n
  pub whole : n * w ≤ length raw
  pub entries : (i : ℕ) → i < n * w → byte raw i ≤ n

-- the first w entries of a row are below k
abbrev pub EntriesBelow : List ℕ → ℕ → ℕ → Type 0
EntriesBelow row w k = (c : ℕ) → c < w → byte row c < k
