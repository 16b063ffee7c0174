-- Sets of states as words. States 2k and 2k + 1 share bit k: a word has room for 128 states, and may have a state that was not put in.
use Rattle.std.specs.Prelude.{◌≡◌, cond, not, List, ℕ, suc, ◌*◌, ◌/◌, ◌<◌, eqb, length, drop}
use Rattle.automaton.specs.Below.{fold_below}
use Rattle.definitions.specs.Bytes.{byte}
use Rattle.definitions.specs.Situation.{empty_set, insert}

-- the word that has every state
abbrev pub all_states : ℕ
all_states = 18446744073709551615

-- a word with state x put in
abbrev pub with_state : ℕ → ℕ → ℕ
with_state x word = insert (x / 2) word

-- the states that the first w entries of a row lead to
abbrev pub with_entry : List ℕ → ℕ → ℕ → ℕ
with_entry row c word = with_state (byte row c) word

abbrev pub leads_to : List ℕ → ℕ → ℕ
leads_to row w = fold_below w empty_set (with_entry row)

-- that of row i of a table
abbrev pub row_word : List ℕ → ℕ → ℕ → ℕ
row_word raw w i = leads_to (drop (i * w) raw) w

-- the array has that of each state s from 1 to n at place s
abbrev pub RowWords : List ℕ → ℕ → ℕ → List ℕ → Type 0
RowWords raw w n leads = (i : ℕ) → i < n → byte leads (suc i) ≡ row_word raw w i

-- the states whose class is not the same in two arrays
abbrev pub with_moved : List ℕ → List ℕ → ℕ → ℕ → ℕ
with_moved old new x word = let more = with_state x word in cond (not (eqb (byte old x) (byte new x))) more word

abbrev pub moved_states : List ℕ → List ℕ → ℕ
moved_states old new = fold_below (length old) empty_set (with_moved old new)
