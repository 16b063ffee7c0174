-- Marks on the states of a book, a truth value for each: those from which some request is answered, now or after a list of events.
use Rattle.std.specs.Prelude.{◌≡◌, Bool, true, false, not, cond, ◌&&◌, List, ℕ, ◌≤◌, length, get_or, set}
use Rattle.automaton.specs.Below.{any_below, count_below}
use Rattle.automaton.specs.History.{History}
use Rattle.automaton.specs.Machine.{after}
use Rattle.definitions.specs.Bytes.{byte}
use Rattle.definitions.specs.Book.{events, states, entry, book_machine}
use Rattle.definitions.specs.Demands.{Events}
use Rattle.definitions.specs.Telling.{some_request, answered}

abbrev pub marked : List Bool → ℕ → Bool
marked marks s = get_or marks s false

-- the state at place k is not
abbrev pub unmarked_at : List Bool → List ℕ → ℕ → Bool
unmarked_at marks order k = not (marked marks (byte order k))

unfoldable pub count_marks : List Bool → ℕ
count_marks marks = count_below 128 (marked marks)

-- event c leads from state s to a marked one
abbrev pub marked_successor : List ℕ → List Bool → ℕ → ℕ → Bool
marked_successor b marks s c = marked marks (entry b s c)

-- state s is not marked, and some event leads to a marked one
abbrev pub gains : List ℕ → List Bool → ℕ → Bool
gains b marks s = not (marked marks s) && any_below (events b) (marked_successor b marks s)

-- the marks then
abbrev pub with_gain : List ℕ → List Bool → ℕ → List Bool
with_gain b marks s = cond (gains b marks s) (set marks s true) marks

-- some request is answered after a list of events from state s
pub record AnswersLater (b : List ℕ) (s : ℕ) : Type 0 where
  pub list : History
  pub events : Events (events b) list
  pub answers : some_request answered b (after (book_machine b) s list) ≡ true

-- every state that answers a request is marked, and from every marked state some request is answered later
pub record Marks (b : List ℕ) (marks : List Bool) : Type 0 where
  pub room : 128 ≤ length marks
  pub full : (s : ℕ) → 1 ≤ s → s ≤ states b → some_request answered b s ≡ true → marked marks s ≡ true
  pub sound : (s : ℕ) → 1 ≤ s → s ≤ states b → marked marks s ≡ true → AnswersLater b s

-- the marks are a fixed point: no event leads from a state that is not marked to a marked one
abbrev pub FixedPoint : List ℕ → List Bool → Type 0
FixedPoint b marks = (s : ℕ) → 1 ≤ s → s ≤ states b → gains b marks s ≡ false
