-- The states of a breadth-first search as a list of numbers, without the histories that found them: what the arrays of the code hold.
use Rattle.std.specs.Prelude.{List, [], map, ℕ}
use Rattle.automaton.specs.Machine.{Machine}
use Rattle.automaton.specs.Explore.{Reached, number_in, add, visit}
use Rattle.automaton.specs.Table.{row_of}

abbrev pub state_of : Reached → ℕ
state_of t = t.state

abbrev pub state_list : List Reached → List ℕ
state_list found = map state_of found

-- a state with no history
abbrev pub bare : ℕ → Reached
bare s = record { state = s; history = [] }

-- the number of a state among those found
abbrev pub number_among : List ℕ → ℕ → ℕ
number_among found s = number_in (map bare found) s

-- those found, with a state put in: one that is possible and new goes to the end
abbrev pub add_state : List ℕ → ℕ → List ℕ
add_state found s = state_list (add (map bare found) s [])

-- those found once the codes below k have been tried from state s
abbrev pub after_codes : Machine → ℕ → ℕ → List ℕ → List ℕ
after_codes m s k found = state_list (visit m (bare s) k (map bare found))

-- the numbers of the states that the codes lead to from state s
abbrev pub row_among : Machine → List ℕ → ℕ → List ℕ
row_among m found s = row_of m (map bare found) s
