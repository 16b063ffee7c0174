-- The line that `play` writes after the opening and after each step.
use Rattle.std.specs.Prelude.{◌≡◌, cond, true, List, [], ◌∷◌, ◌++◌, ℕ, zero, suc, eqb, Result, Ok, Err}
use Rattle.definitions.specs.Answer.{Answer, refused, given}
use Rattle.definitions.specs.Book.{requests}
use Rattle.definitions.specs.Refusal.{book_refusal}
use Rattle.definitions.specs.Telling.{Telling, none, accept, reject, both, telling}
use Rattle.definitions.specs.Opened.{state_holds}
use Rattle.definitions.specs.Characters.{blank, newline}
use Rattle.definitions.specs.Shelf.{line, refused_word}
use Rattle.definitions.specs.Decimal.{decimal}
use Rattle.refusal.specs.declared.Refusal.{Refusal}
use Rattle.refusal.specs.Refused.{number_of}

-- "none", "accept", "reject", "both"
abbrev pub telling_word : Telling → List ℕ
telling_word none = 110 ∷ 111 ∷ 110 ∷ 101 ∷ []
telling_word accept = 97 ∷ 99 ∷ 99 ∷ 101 ∷ 112 ∷ 116 ∷ []
telling_word reject = 114 ∷ 101 ∷ 106 ∷ 101 ∷ 99 ∷ 116 ∷ []
telling_word both = 98 ∷ 111 ∷ 116 ∷ 104 ∷ []

-- the word after a blank; of a refused call nothing is told
abbrev pub telling_text : Answer Telling → List ℕ
telling_text (refused number) = []
telling_text (given told) = blank ∷ telling_word told

-- what is told of the first k requests at a state
abbrev pub tellings_text : List ℕ → ℕ → ℕ → List ℕ
tellings_text b s zero = []
tellings_text b s (suc k) = tellings_text b s k ++ telling_text (given (telling b s k))

-- the state, and what is told of each request
abbrev pub state_line : List ℕ → ℕ → List ℕ
state_line b s = decimal s ++ tellings_text b s (requests b) ++ (newline ∷ [])

-- the line for a call that answered a number and has left the book at a state
abbrev pub answer_line : List ℕ → ℕ → ℕ → List ℕ
answer_line b number state =
    let right = state_line b state in
    let wrong = line refused_word (decimal number) in
    cond (eqb number 0) right wrong

-- the same by the result of the call: the state that the book is at, or the refusal
abbrev pub result_line : List ℕ → Result ℕ Refusal → List ℕ
result_line b (Ok state) = state_line b state
result_line b (Err refusal) = line refused_word (decimal (number_of refusal))

-- a book that the checks pass, at one of its states
pub record Stands (b : List ℕ) (s : ℕ) : Type 0 where
  pub passes : book_refusal b ≡ 0
  pub holds : state_holds b s ≡ true
