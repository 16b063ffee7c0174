-- Rounds of refinement, with the classes of a table's states in an array.
use Rattle.std.specs.Prelude.{◌≡◌, Bool, ◌&&◌, List, ◌∷◌, ℕ, ◌-◌, ◌*◌, ◌<◌, ◌≤◌, eqb, length, drop, replicate}
use Rattle.std.specs.Int.Bits.{bit_and, bit_or}
use Rattle.automaton.specs.Below.{same_list}
use Rattle.automaton.specs.Join.{refine, classes_after}
use Rattle.definitions.specs.Bytes.{byte}
use Rattle.definitions.specs.Rows.{looked_up, TableIn}
use Rattle.refine.specs.Classes.{rows_with}

-- the array holds the classes of a table after some number of rounds
pub record InRounds (raw : List ℕ) (w : ℕ) (classes : List ℕ) : Type 0 where
  pub few : length classes ≤ 128
  pub table : TableIn raw (length classes - 1) w
  pub rounds : ℕ
  pub are : classes ≡ 0 ∷ classes_after (rows_with raw w classes) rounds

-- the array before the first round, of k bytes: all states are together
abbrev pub one_class : ℕ → List ℕ
one_class k = 0 ∷ replicate (k - 1) 1

-- the array after one more round
abbrev pub next_round : List ℕ → ℕ → List ℕ → List ℕ
next_round raw w classes = 0 ∷ refine (rows_with raw w classes) (drop 1 classes)

-- state t is the first of a new class inside the present class of state s
abbrev pub is_first : List ℕ → List ℕ → ℕ → ℕ → Bool
is_first classes next s t = eqb (byte classes t) (byte classes s) && eqb (byte next t) t

-- and leads to the same classes as s
abbrev pub is_first_alike : List ℕ → ℕ → List ℕ → List ℕ → ℕ → ℕ → Bool
is_first_alike raw w classes next s t =
    let same = same_list (looked_up classes w (drop ((t - 1) * w) raw)) (looked_up classes w (drop ((s - 1) * w) raw)) in
    is_first classes next s t && same

-- a state keeps its class in the next round if neither it nor the first state of its class leads to a state in the word `moved`; leads has the word of each state
pub record KeptClasses (raw : List ℕ) (w : ℕ) (leads : List ℕ) (moved : ℕ) (classes : List ℕ) : Type 0 where
  pub words : length classes ≤ length leads
  pub kept : (s : ℕ) → 1 ≤ s → s < length classes → bit_and (bit_or (byte leads s) (byte leads (byte classes s))) moved ≡ 0
      → byte (next_round raw w classes) s ≡ byte classes s
