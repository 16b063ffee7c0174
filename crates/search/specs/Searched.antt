-- What a search has found, read off its fields, and what a visit does to it.
use Rattle.std.specs.Prelude.{List, ℕ, ◌/◌, ◌≤◌, ◌<◌, length}
use Rattle.automaton.specs.History.{History}
use Rattle.automaton.specs.Explore.{Reached, visit}
use Rattle.definitions.specs.Bytes.{byte}
use Rattle.search.specs.declared.breadth_first.Search.{Search}
use Rattle.search.specs.Trail.{history_at}
use Rattle.search.specs.Found.{rows_machine, reached_at, found_in}

-- the states found, each with its history
abbrev pub found_by : {N M : ℕ} → Search N M → List Reached
found_by s = found_in s.count s.order s.trail

-- what a place holds
abbrev pub reached_by : {N M : ℕ} → Search N M → ℕ → Reached
reached_by s k = reached_at s.order s.trail k

abbrev pub state_of : {N M : ℕ} → Search N M → ℕ → ℕ
state_of s k = byte s.order k

abbrev pub history_of : {N M : ℕ} → Search N M → ℕ → History
history_of s k = history_at s.trail k

-- what is found once the state at place i is visited
abbrev pub visited_at : {N M : ℕ} → List ℕ → ℕ → Search N M → ℕ → List Reached
visited_at rows w s i = visit (rows_machine rows w) (reached_by s i) w (found_by s)

-- it can be visited: it has a row, and at most as many states are found then as there are rows
pub record CanVisit {N M : ℕ} (rows : List ℕ) (w : ℕ) (s : Search N M) (i : ℕ) : Type 0 where
  pub before : i < s.count
  pub some : 1 ≤ state_of s i
  pub most : state_of s i ≤ length rows / w
  pub room : length (visited_at rows w s i) ≤ length rows / w
