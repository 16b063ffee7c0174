-- Classes numbered by their first states: where a table's states are in the order of their earliest histories, so are the first states of its classes.
use Rattle.std.specs.Prelude.{cond, List, [], ◌∷◌, ◌++◌, map, ℕ, zero, suc, ◌-◌, eqb, length, get_or}

-- the states 1 to n that are the first of their class, in order
abbrev pub firsts : (ℕ → ℕ) → ℕ → List ℕ
firsts class zero = []
firsts class (suc n) =
    let before = firsts class n in
    let more = before ++ (suc n ∷ []) in
    cond (eqb (class (suc n)) (suc n)) more before

-- how many classes begin up to state s
abbrev pub rank : (ℕ → ℕ) → ℕ → ℕ
rank class s = length (firsts class s)

-- the number of a state: that of its class
abbrev pub class_number : (ℕ → ℕ) → ℕ → ℕ
class_number class s = rank class (class s)

-- the row of state s with the numbers of the states in their place
abbrev pub ranked_row : (ℕ → ℕ) → List (List ℕ) → ℕ → List ℕ
ranked_row class rows s = map (class_number class) (get_or rows (s - 1) [])

-- the rows of the first states
abbrev pub ranked : (ℕ → ℕ) → List (List ℕ) → List (List ℕ)
ranked class rows = map (ranked_row class rows) (firsts class (length rows))
