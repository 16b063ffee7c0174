-- What a state of a book says of a request: whether it may be accepted, and whether it may be rejected. The book is not checked here.
use Rattle.std.specs.Prelude.{Bool, true, false, not, ◌&&◌, ◌||◌, List, ℕ}
use Rattle.automaton.specs.Below.{any_below}
use Rattle.automaton.specs.Machine.{step, is_state}
use Rattle.definitions.specs.Codes.{accept_code, reject_code}
use Rattle.definitions.specs.Book.{events, requests, book_machine}

abbrev pub acceptable : List ℕ → ℕ → ℕ → Bool
acceptable b s r = is_state (step (book_machine b) s (accept_code (events b) r))

abbrev pub rejectable : List ℕ → ℕ → ℕ → Bool
rejectable b s r = is_state (step (book_machine b) s (reject_code (events b) r))

-- "some request may be both accepted and rejected (proposition 4)"
abbrev pub in_conflict : List ℕ → ℕ → ℕ → Bool
in_conflict b s r = acceptable b s r && rejectable b s r

abbrev pub answered : List ℕ → ℕ → ℕ → Bool
answered b s r = acceptable b s r || rejectable b s r

-- "some request is unanswered (definition 3)"
abbrev pub unanswered : List ℕ → ℕ → ℕ → Bool
unanswered b s r = not (answered b s r)

abbrev pub some_request : (List ℕ → ℕ → ℕ → Bool) → List ℕ → ℕ → Bool
some_request test b s = any_below (requests b) (test b s)

-- "It tells, for a request, none, accept, reject or both"
pub data Telling : Type 0 where
  none accept reject both : Telling

abbrev pub to_telling : Bool → Bool → Telling
to_telling true true = both
to_telling true false = accept
to_telling false true = reject
to_telling false false = none

unfoldable pub telling : List ℕ → ℕ → ℕ → Telling
telling b s r = to_telling (acceptable b s r) (rejectable b s r)

-- "an outcome (0 none, 1 accept, 2 reject, 3 both)" (request 3 of document 02)
abbrev pub outcome_of : Telling → ℕ
outcome_of none = 0
outcome_of accept = 1
outcome_of reject = 2
outcome_of both = 3
