-- What the calls on an opened book answer, and lists of calls.
use Rattle.std.specs.Prelude.{◌≡◌, true, List, [], ◌∷◌, ℕ}
use Rattle.std.specs.Borrow.{Bor}
use Rattle.automaton.specs.Machine.{after, possible}
use Rattle.definitions.specs.Answer.{refused}
use Rattle.definitions.specs.Book.{book_machine}
use Rattle.definitions.specs.Opened.{open_refusal, tell_answer, step_refusal, step_state, walk_history}
use Rattle.walk.specs.Walk.{open_state}
use Rattle.opened.specs.declared.OpenedBook.{OpenedBook}
use Rattle.opened.specs.declared.Opened.{Opened}

-- a number beside a book over the bytes x
abbrev pub answered : Bor (List ℕ) → ℕ → ℕ → Opened
answered x number state = record { number = number; book = record { bytes = x; state = state } }

-- "Opening takes rows 12 to 14 and starts at state 1"
abbrev pub open_of : Bor (List ℕ) → Opened
open_of x = answered x (open_refusal x.now) (open_state x.now)

-- a step; where it is refused, "an opened book's state stays"
abbrev pub step_of : OpenedBook → ℕ → Opened
step_of d c = answered d.bytes (step_refusal d.bytes.now d.state c) (step_state d.bytes.now d.state c)

-- d has become e by a list of calls of `step`, each of which answered what its contract says
abbrev pub Run : OpenedBook → List ℕ → OpenedBook → Type 0
Run d [] e = e ≡ d
Run d (c ∷ cs) e = (r : Opened) × (r ≡ step_of d c) × Run r.book cs e

-- "its state is the one that the history of the steps not refused leads to", over the same bytes; that history is possible in the book
pub record Leads (x : Bor (List ℕ)) (cs : List ℕ) (e : OpenedBook) : Type 0 where
  pub bytes : e.bytes ≡ x
  pub state : e.state ≡ after (book_machine x.now) 1 (walk_history x.now 1 cs)
  pub history : possible (book_machine x.now) (walk_history x.now 1 cs) ≡ true

-- a book whose opening was refused by a number: it remains at state 0, and every call on it answers that number
pub record StaysClosed (x : Bor (List ℕ)) (number : ℕ) (e : OpenedBook) : Type 0 where
  pub bytes : e.bytes ≡ x
  pub state : e.state ≡ 0
  pub steps : (c : ℕ) → (step_of e c).number ≡ number
  pub tells : (request : ℕ) → tell_answer e.bytes.now e.state request ≡ refused number
