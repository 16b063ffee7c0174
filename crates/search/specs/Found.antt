-- The states of a table that a search finds, each with a history, and the arrays that hold them.
use Rattle.std.specs.Prelude.{◌≡◌, List, [], ◌∷◌, ℕ, zero, suc, ◌*◌, ◌/◌, ◌≤◌, ◌<◌, length, replicate}
use Rattle.automaton.specs.Below.{list_below}
use Rattle.automaton.specs.Machine.{Machine}
use Rattle.automaton.specs.Explore.{Reached, number_in, visit, reached}
use Rattle.automaton.specs.Table.{tabled}
use Rattle.automaton.specs.Parents.{EarlierParents}
use Rattle.definitions.specs.Bytes.{byte}
use Rattle.definitions.specs.Book.{states}
use Rattle.definitions.specs.Verdict.{states_reached}
use Rattle.definitions.specs.Rows.{rows_in, TableIn}
use Rattle.search.specs.Trail.{first_at, history_at}

-- ---- tables that a search takes
-- the bytes are the rows of a table, w entries each; a byte has room for the number of a row, and for a code
pub record SmallTable (rows : List ℕ) (w : ℕ) : Type 0 where
  pub table : TableIn rows (length rows / w) w
  pub few : length rows / w ≤ 127
  pub narrow : w ≤ 256

-- its machine: the states are the numbers of the rows
abbrev pub rows_machine : List ℕ → ℕ → Machine
rows_machine rows w = tabled w (rows_in rows (length rows / w) w)

-- the states that histories reach from state 1, in the order of their earliest history, each with that history
unfoldable pub states_of : List ℕ → ℕ → List Reached
states_of rows w = reached (rows_machine rows w) 127

-- the same for a book
unfoldable pub book_states : List ℕ → List Reached
book_states b = states_reached b

-- ---- arrays that hold what is found
-- what place k holds
abbrev pub reached_at : List ℕ → List ℕ → ℕ → Reached
reached_at order trail k = record { state = byte order k; history = history_at trail k }

-- what the first n places hold
unfoldable pub found_in : ℕ → List ℕ → List ℕ → List Reached
found_in n order trail = list_below n (reached_at order trail)

-- the first n places hold the states of a list, each with its history; each but the first follows an earlier one
pub record Holds (found : List Reached) (n : ℕ) (order trail : List ℕ) : Type 0 where
  pub are : found_in n order trail ≡ found
  pub falls : EarlierParents n (first_at trail)

-- the first n places of an array have states of a book
abbrev pub StatesIn : List ℕ → ℕ → List ℕ → Type 0
StatesIn b n order = (k : ℕ) → k < n → (1 ≤ byte order k) × (byte order k ≤ states b)

-- the number of a state, 0 if it is not found; 0 is no state, and has 1 as if it were found
abbrev pub number_of : List Reached → ℕ → ℕ
number_of found zero = 1
number_of found (suc s) = number_in found (suc s)

-- the arrays of a search: the third has the numbers of the states below its length, and for as many states there is room in the others
pub record Arrays (found : List Reached) (n : ℕ) (order trail numbers : List ℕ) : Type 0 where
  pub holds : Holds found n order trail
  pub few : length numbers ≤ 128
  pub room_order : length numbers ≤ length order
  pub room_trail : 2 * length numbers ≤ length trail
  pub numbered : (s : ℕ) → s < length numbers → byte numbers s ≡ number_of found s

-- the same before a search that finds at most so many states
pub record EmptyArrays (most : ℕ) (order trail numbers : List ℕ) : Type 0 where
  pub enough : most < length numbers
  pub few : length numbers ≤ 128
  pub room_order : length numbers ≤ length order
  pub room_trail : 2 * length numbers ≤ length trail
  pub empty : numbers ≡ replicate (length numbers) 0

-- what is found once the state at place i of n is visited
abbrev pub visited_at : List ℕ → ℕ → List ℕ → List ℕ → ℕ → ℕ → List Reached
visited_at rows w order trail n i = visit (rows_machine rows w) (reached_at order trail i) w (found_in n order trail)

-- it can be visited: it has a row, and at most as many states are found then as there are rows
pub record CanVisit (rows : List ℕ) (w : ℕ) (order trail : List ℕ) (n i : ℕ) : Type 0 where
  pub before : i < n
  pub some : 1 ≤ byte order i
  pub most : byte order i ≤ length rows / w
  pub room : length (visited_at rows w order trail n i) ≤ length rows / w

-- only state 1 is found, with no history
abbrev pub started : List Reached
started = record { state = 1; history = [] } ∷ []

-- the number of state s stands at its place
abbrev pub Numbered : ℕ → List ℕ → List ℕ → List ℕ → ℕ → Type 0
Numbered n order trail numbers s = byte numbers s ≡ number_of (found_in n order trail) s
