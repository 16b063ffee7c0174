-- Alike states joined into one, by rounds of refinement (Moore's algorithm): after k rounds two states are in one class if the same histories of at
-- most k codes are possible from each. A class has the number of its first state.
use Rattle.std.specs.Prelude.{List, map, ℕ, zero, suc, ◌-◌, length, get_or}
use Rattle.automaton.specs.Below.{place_of, same_list}
use Rattle.automaton.specs.Machine.{Machine}
use Rattle.automaton.specs.Explore.{reached}
use Rattle.automaton.specs.Table.{table, entry_in}

-- the class of a state, where `classes` has that of each row; "not possible" is a class of its own
abbrev pub class_of : List ℕ → ℕ → ℕ
class_of classes zero = 0
class_of classes (suc s) = get_or classes s 0

-- the rows with the classes of the states in their place
abbrev pub class_rows : List ℕ → List (List ℕ) → List (List ℕ)
class_rows classes rows = map (map (class_of classes)) rows

-- the number of the first row that is equal
abbrev pub first_like : List (List ℕ) → List ℕ → ℕ
first_like rows row = place_of (same_list row) rows

-- one round: the states whose codes lead to the same classes are together
abbrev pub refine : List (List ℕ) → List ℕ → List ℕ
refine rows classes = map (first_like (class_rows classes rows)) (class_rows classes rows)

abbrev pub together : List ℕ → ℕ
together row = 1

-- the classes after k rounds; before the first all states are together
abbrev pub classes_after : List (List ℕ) → ℕ → List ℕ
classes_after rows zero = map together rows
classes_after rows (suc k) = refine rows (classes_after rows k)

-- each round but the last divides a class, so one round less than there are states is enough
abbrev pub classes : List (List ℕ) → List ℕ
classes rows = classes_after rows (length rows - 1)

-- the table's machine with classes for states
abbrev pub joined_by : List ℕ → ℕ → List (List ℕ) → Machine
joined_by cs w rows = record { width = w; start = 1; next = λ s c. class_of cs (entry_in rows s c) }

abbrev pub joined : ℕ → List (List ℕ) → Machine
joined w rows = let cs = classes rows in joined_by cs w rows

-- the smallest table with the histories of a table: alike states are one state, and states are numbered by their earliest history
unfoldable pub minimal : ℕ → List (List ℕ) → List (List ℕ)
minimal w rows = let m = joined w rows in table m (reached m (length rows))
