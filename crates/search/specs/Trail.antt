-- A list of bytes read as places of two bytes each, and the histories that are kept in one: the parent's place, and the code.
use Rattle.std.specs.Prelude.{List, ℕ, ◌+◌, ◌*◌, get_or, set}
use Rattle.automaton.specs.History.{History}
use Rattle.automaton.specs.Parents.{trail}

abbrev pub first_at : List ℕ → ℕ → ℕ
first_at places k = get_or places (2 * k) 0

abbrev pub second_at : List ℕ → ℕ → ℕ
second_at places k = get_or places (2 * k + 1) 0

-- x and y are stored at place k
abbrev pub placed : List ℕ → ℕ → ℕ → ℕ → List ℕ
placed places k x y = set (set places (2 * k) x) (2 * k + 1) y

-- the history of place k
abbrev pub history_at : List ℕ → ℕ → History
history_at places k = trail (first_at places) (second_at places) k
