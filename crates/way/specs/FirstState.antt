-- The search for the first state that is a goal: what a visit leaves that ends where such a state is found, what the search leaves, and what is shown then.
use Rattle.std.specs.Prelude.{◌≡◌, Bool, true, false, cond, List, ℕ, suc, ◌≤◌, ◌<◌, ltb, length, drop, Option, MatchOption}
use Rattle.std.proofs.Math.Option.{none, some}
use Rattle.automaton.specs.Explore.{visit, first_that}
use Rattle.definitions.specs.Answer.{written, history_bytes}
use Rattle.definitions.specs.Book.{width, states}
use Rattle.definitions.specs.Telling.{outcome_of}
use Rattle.definitions.specs.Verdict.{states_reached}
use Rattle.definitions.specs.Way.{has_outcome, way}
use Rattle.book.specs.Tellings.{telling_of}
use Rattle.search.specs.declared.breadth_first.Search.{Search}
use Rattle.search.specs.Found.{rows_machine}
use Rattle.search.specs.Searched.{found_by, reached_by, state_of, history_of}
use Rattle.way.specs.ShownAnswer.{history_shown}
use Rattle.way.specs.declared.goal.Goal.{Goal}

-- the bytes of the book that a goal is sought in
abbrev pub bytes_of : Goal → List ℕ
bytes_of g = g.book.bytes.now

-- its rows
abbrev pub rows_of : Goal → List ℕ
rows_of g = drop 12 (bytes_of g)

-- the number of the outcome
abbrev pub sought : Goal → ℕ
sought g = outcome_of (telling_of g.outcome)

-- a state is a goal
abbrev pub is_goal : Goal → ℕ → Bool
is_goal g s = has_outcome (bytes_of g) g.request (sought g) s

-- none of the states found is one
abbrev pub NoneFound : {N M : ℕ} → Goal → Search N M → Type 0
NoneFound g s = (k : ℕ) → k < s.count → is_goal g (state_of s k) ≡ false

-- the first state found that is one is the last of all
pub record OnlyLast {N M : ℕ} (g : Goal) (s : Search N M) : Type 0 where
  pub last : ℕ
  pub is : s.count ≡ suc last
  pub has : is_goal g (state_of s last) ≡ true
  pub before : (k : ℕ) → k < last → is_goal g (state_of s k) ≡ false

-- the codes below some code have been tried from the state at place i of the search s₀, which leaves s: all codes, and no state is a goal, or the last of them is one
pub record VisitedFor {N M : ℕ} (g : Goal) (s₀ : Search N M) (i : ℕ) (hit : Bool) (s : Search N M) : Type 0 where
  pub tried : ℕ
  pub within : tried ≤ width (bytes_of g)
  pub are : found_by s ≡ visit (rows_machine (rows_of g) (width (bytes_of g))) (reached_by s₀ i) tried (found_by s₀)
  pub missed : hit ≡ false → (tried ≡ width (bytes_of g)) × NoneFound g s
  pub found : hit ≡ true → (s₀.count < s.count) × OnlyLast g s

-- the states of a search that has visited those before place i, as far as they are still to be visited: those before place `end` are found after so many codes, and
-- those from it on after one more
pub record AtLevel {N M : ℕ} (s : Search N M) (i codes end : ℕ) : Type 0 where
  pub inside : i < s.count → i < end
  pub most : end ≤ s.count
  pub few : codes ≤ i
  pub here : (k : ℕ) → i ≤ k → k < end → length (history_of s k) ≡ codes
  pub next : (k : ℕ) → end ≤ k → k < s.count → length (history_of s k) ≡ suc codes

-- the level once place i is reached and n states are found
abbrev pub next_length : ℕ → ℕ → ℕ → ℕ
next_length codes end i = cond (ltb i end) codes (suc codes)

abbrev pub next_end : ℕ → ℕ → ℕ → ℕ
next_end end i n = cond (ltb i end) end n

-- of the states that histories reach the first that is a goal is the last that is found, and is reached after so many codes
pub record LastIsFirst {N M : ℕ} (g : Goal) (s : Search N M) (codes : ℕ) : Type 0 where
  pub last : ℕ
  pub is : s.count ≡ suc last
  pub first : first_that (is_goal g) (states_reached (bytes_of g)) ≡ some (reached_by s last)
  pub few : last < states (bytes_of g)
  pub length-is : codes ≡ length (history_of s last)

-- the search is over: no state that a history reaches is a goal, or the last that is found is the first that is one
abbrev pub FirstState : {N M : ℕ} → Goal → Option ℕ → Search N M → Type 0
FirstState g result s = MatchOption result (first_that (is_goal g) (states_reached (bytes_of g)) ≡ none) (LastIsFirst g s)

-- what is returned, and the buffer before and after: the way to the goal is shown
abbrev pub Shows : Goal → Option ℕ → List ℕ → List ℕ → Type 0
Shows g shown before after =
    (history_shown after shown ≡ way (bytes_of g) g.request (sought g)) × (after ≡ written (history_bytes (way (bytes_of g) g.request (sought g))) before)
