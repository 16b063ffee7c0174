-- The classes of a table's states in an array, with class 0 of "not possible" first: their first states, the number of each state, and the rows of a book.
use Rattle.std.specs.Prelude.{◌≡◌, List, [], ◌∷◌, ◌++◌, map, ℕ, ◌-◌, ◌*◌, ◌≤◌, ◌<◌, length, drop}
use Rattle.automaton.specs.Below.{list_below}
use Rattle.automaton.specs.Ranks.{firsts, class_number}
use Rattle.definitions.specs.Bytes.{byte}
use Rattle.definitions.specs.Rows.{looked_up}

-- a class has the number of its first state
pub record NamesFirst (classes : List ℕ) : Type 0 where
  pub some : 1 ≤ length classes
  pub low : (s : ℕ) → s < length classes → byte classes s ≤ s
  pub own : (s : ℕ) → s < length classes → byte classes (byte classes s) ≡ byte classes s

-- the first states of the classes, in order
abbrev pub first_states : List ℕ → List ℕ
first_states classes = firsts (byte classes) (length classes - 1)

-- the number of each state: that of its class
abbrev pub class_numbers : List ℕ → List ℕ
class_numbers classes = list_below (length classes) (class_number (byte classes))

-- the array holds states of which each is below k
abbrev pub StatesBelow : List ℕ → ℕ → Type 0
StatesBelow order k = (i : ℕ) → i < length order → (1 ≤ byte order i) × (byte order i < k)

-- the row of state s, which is row s - 1 of raw, with the numbers of the states in their place
abbrev pub numbered_row : List ℕ → ℕ → List ℕ → ℕ → List ℕ
numbered_row raw w numbers s = looked_up numbers w (drop ((s - 1) * w) raw)

abbrev pub numbered_rows : List ℕ → ℕ → List ℕ → List ℕ → List (List ℕ)
numbered_rows raw w numbers order = map (numbered_row raw w numbers) order

-- the first 12 bytes of a book of n states
abbrev pub book_header : List ℕ → ℕ → List ℕ
book_header frame n = 0x42 ∷ 0x4F ∷ 0x4B ∷ 0 ∷ 1 ∷ frame ++ (n ∷ [])
