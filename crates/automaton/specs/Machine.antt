-- A machine (a partial deterministic automaton in which every state accepts): states are numbers, 0 is "not possible", steps have codes below the width.
-- A policy is one, its states being situations, and so is a book, its states being the numbers of its rows.
use Rattle.std.specs.Prelude.{◌≡◌, Bool, cond, true, false, [], ◌∷◌, ℕ, zero, suc, ◌<◌, ltb, T}
use Rattle.automaton.specs.History.{History}

pub record Machine : Type 0 where
  pub width : ℕ
  pub start : ℕ
  pub next : ℕ → ℕ → ℕ

-- the state after one code: nothing follows "not possible", and no code at or above the width is possible
abbrev pub step : Machine → ℕ → ℕ → ℕ
step m zero c = 0
step m (suc s) c = let there = m.next (suc s) c in cond (ltb c m.width) there 0

-- the state that a history leads to from state s
abbrev pub after : Machine → ℕ → History → ℕ
after m s [] = s
after m s (c ∷ h) = after m (step m s c) h

-- a state other than "not possible"
abbrev pub is_state : ℕ → Bool
is_state zero = false
is_state (suc s) = true

abbrev pub possible_from : Machine → ℕ → History → Bool
possible_from m s h = is_state (after m s h)

-- "A history is a list of codes, possible if each step is, from the start"
abbrev pub possible : Machine → History → Bool
possible m h = possible_from m m.start h

-- k possible histories, one for each number below k, that lead to states no two of which are equal
pub record DistinctStates (m : Machine) (k : ℕ) : Type 0 where
  pub history : ℕ → History
  pub possible_each : (i : ℕ) → i < k → possible m (history i) ≡ true
  pub distinct : (i j : ℕ) → i < j → j < k → after m m.start (history i) ≡ after m m.start (history j) → ⊥

-- the same histories are possible in two machines
abbrev pub SameHistories : Machine → Machine → Type 0
SameHistories A B = (h : History) → possible A h ≡ possible B h

-- "alike if the same histories are possible from each": x in A and y in B (Myhill-Nerode equivalence)
abbrev pub Alike : Machine → ℕ → Machine → ℕ → Type 0
Alike A x B y = (h : History) → possible_from A x h ≡ possible_from B y h

-- possible in exactly one of two
abbrev pub in_one : Bool → Bool → Bool
in_one true true = false
in_one true false = true
in_one false true = true
in_one false false = false

-- history h is possible from just one of the state x of A and the state y of B: it distinguishes the two
abbrev pub Distinguishes : Machine → ℕ → Machine → ℕ → History → Type 0
Distinguishes A x B y h = T (in_one (possible_from A x h) (possible_from B y h))
