-- The states that histories reach, in the order of their earliest history (breadth-first search, codes ascending).
use Rattle.std.specs.Prelude.{Bool, cond, List, [], ◌∷◌, ◌++◌, ℕ, zero, suc, ltb, eqb, length, get_or}
use Rattle.std.proofs.Math.Option.{Option, none, some}
use Rattle.automaton.specs.Below.{place_of}
use Rattle.automaton.specs.History.{History}
use Rattle.automaton.specs.Machine.{Machine, step, is_state}

-- a state, and the history by which it was found first
pub record Reached : Type 0 where
  pub state : ℕ
  pub history : History

abbrev pub is_at : ℕ → Reached → Bool
is_at s t = eqb s t.state

-- the number of a state: its place among those found, from 1; 0 for "not possible" and for a state that was not found
abbrev pub number_in : List Reached → ℕ → ℕ
number_in found zero = 0
number_in found (suc s) = place_of (is_at (suc s)) found

-- a state that is possible and new goes to the end
abbrev pub add : List Reached → ℕ → History → List Reached
add found zero h = found
add found (suc s) h =
    let more = found ++ (record { state = suc s; history = h } ∷ []) in
    cond (is_state (number_in found (suc s))) found more

-- the codes below k are tried, in order, from a state that was found
abbrev pub visit : Machine → Reached → ℕ → List Reached → List Reached
visit m t zero found = found
visit m t (suc c) found = add (visit m t c found) (step m t.state c) (t.history ++ (c ∷ []))

abbrev pub unreached : Reached
unreached = record { state = 0; history = [] }

-- the states from place i on are visited in turn, while there are any and at most `fuel` of them
abbrev pub explore : Machine → ℕ → ℕ → List Reached → List Reached
explore m zero i found = found
explore m (suc fuel) i found =
    let more = explore m fuel (suc i) (visit m (get_or found i unreached) m.width found) in
    cond (ltb i (length found)) more found

abbrev pub start_of : Machine → List Reached
start_of m = record { state = m.start; history = [] } ∷ []

-- the states reached, each with its earliest history, in the order of these histories: all of them, if they are at most `most`, and else more than `most`
abbrev pub reached : Machine → ℕ → List Reached
reached m most = explore m most 0 (start_of m)

-- the first whose state passes a test, and so the one with the earliest history
abbrev pub first_that : (ℕ → Bool) → List Reached → Option Reached
first_that test [] = none
first_that test (t ∷ ts) = let rest = first_that test ts in cond (test t.state) (some t) rest
