-- The classes of a table's states in an array: class 0 of "not possible" first, then the class of each state.
use Rattle.std.specs.Prelude.{List, ◌∷◌, ℕ, ◌-◌, length}
use Rattle.automaton.specs.Join.{classes}
use Rattle.definitions.specs.Rows.{rows_in}

-- the rows of a table whose classes the array holds
abbrev pub rows_with : List ℕ → ℕ → List ℕ → List (List ℕ)
rows_with raw w array = rows_in raw (length array - 1) w

-- the array of the classes of its alike states
abbrev pub last_round : List ℕ → ℕ → List ℕ → List ℕ
last_round raw w array = 0 ∷ classes (rows_with raw w array)
