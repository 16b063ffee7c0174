-- Tables: a row for each state, an entry for each code; from a machine to its table and back.
use Rattle.std.specs.Prelude.{List, [], map, ℕ, zero, suc, get_or}
use Rattle.automaton.specs.Below.{list_below}
use Rattle.automaton.specs.Machine.{Machine, step}
use Rattle.automaton.specs.Explore.{Reached, number_in}

-- the numbers of the states that the codes lead to from state s
abbrev pub row_of : Machine → List Reached → ℕ → List ℕ
row_of m found s = list_below m.width (λ c. number_in found (step m s c))

abbrev pub row_at : Machine → List Reached → Reached → List ℕ
row_at m found t = row_of m found t.state

-- the table of the states found
abbrev pub table : Machine → List Reached → List (List ℕ)
table m found = map (row_at m found) found

-- entry c of row s, rows counted from 1
abbrev pub entry_in : List (List ℕ) → ℕ → ℕ → ℕ
entry_in rows zero c = 0
entry_in rows (suc s) c = get_or (get_or rows s []) c 0

-- a table of width w as a machine: its states are the numbers of its rows
abbrev pub tabled : ℕ → List (List ℕ) → Machine
tabled w rows = record { width = w; start = 1; next = entry_in rows }
