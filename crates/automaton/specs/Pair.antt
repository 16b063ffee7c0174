-- Two machines of one width side by side (their product), and the earliest history that is possible in just one of them.
use Rattle.std.specs.Prelude.{Bool, [], ◌∷◌, ◌++◌, ℕ, zero, suc, ◌+◌, ◌*◌, ◌/◌, ◌%◌}
use Rattle.std.proofs.Math.Option.{Option, none, some}
use Rattle.automaton.specs.Below.{any_below, lowest_below}
use Rattle.automaton.specs.History.{History}
use Rattle.automaton.specs.Machine.{Machine, step, is_state, in_one}
use Rattle.automaton.specs.Explore.{Reached, reached, first_that}

-- a pair of states as one number; base is above every state of the second machine
abbrev pub pair : ℕ → ℕ → ℕ → ℕ
pair base zero t = 0
pair base (suc s) zero = 0
pair base (suc s) (suc t) = suc s * base + suc t

-- both machines take each step
abbrev pub beside : ℕ → Machine → Machine → Machine
beside base A B = record {
  width = A.width;
  start = pair base A.start B.start;
  next = λ q c. pair base (step A (q / base) c) (step B (q % base) c);
}

-- code c is possible in just one of the two states of a pair
abbrev pub differs_by : ℕ → Machine → Machine → ℕ → ℕ → Bool
differs_by base A B q c = in_one (is_state (step A (q / base) c)) (is_state (step B (q % base) c))

abbrev pub differs : ℕ → Machine → Machine → ℕ → Bool
differs base A B q = any_below A.width (differs_by base A B q)

abbrev pub last_code : ℕ → Machine → Machine → Option Reached → Option History
last_code base A B none = none
last_code base A B (some t) = some (t.history ++ (lowest_below A.width (differs_by base A B t.state) ∷ []))

-- the earliest history possible in just one of two machines; none if there is no such history. At most `most` pairs are reached
unfoldable pub difference : ℕ → ℕ → Machine → Machine → Option History
difference base most A B = last_code base A B (first_that (differs base A B) (reached (beside base A B) most))
