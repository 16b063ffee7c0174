-- What the functions of the search over pairs of states rely on and ensure. Of two books b and d state x of b has the number x, state y of d the number
-- states b + 1 + y; 0 and states b + 1 are no state. There is room for a pair for each number.
use Rattle.std.specs.Prelude.{◌≡◌, List, [], ◌∷◌, ◌++◌, ℕ, suc, ◌+◌, ◌*◌, ◌≤◌, ◌<◌, length, get_or, Option, Some, None}
use Rattle.std.proofs.Math.Option.{Option as Maybe, none, some}
use Rattle.automaton.specs.History.{History}
use Rattle.automaton.specs.Parents.{EarlierParents}
use Rattle.automaton.specs.PairQueue.{Queue, Search}
use Rattle.definitions.specs.Book.{width, states, book_machine}
use Rattle.definitions.specs.Compare.{comparison}
use Rattle.search.specs.Trail.{first_at, second_at, history_at}
use Rattle.comparelabels.specs.LabelBytes.{label_at, OwnFrom}
use Rattle.comparepairs.specs.declared.Difference.{Difference}

-- two books of one width, and room for the search
pub record BooksReady (b d queue label : List ℕ) : Type 0 where
  pub same_width : width b ≡ width d
  pub room_queue : 4 * length label ≤ length queue
  pub room_label : states b + 1 + states d < length label
  pub bytes : length label ≤ 256

-- the pairs and their histories, with room for so many pairs
abbrev pub left_at : ℕ → List ℕ → ℕ → ℕ
left_at size queue k = first_at queue (size + k)

abbrev pub right_at : ℕ → List ℕ → ℕ → ℕ
right_at size queue k = second_at queue (size + k)

abbrev pub queue_of : ℕ → List ℕ → Queue
queue_of size queue = record { left = left_at size queue; right = right_at size queue; parent = first_at queue; code = second_at queue }

-- the search has come to code c of pair i, of m pairs
pub record PairSearch (b d : List ℕ) (m i c : ℕ) (queue label : List ℕ) : Type 0 where
  pub ready : BooksReady b d queue label
  pub labels : OwnFrom (states b + 1) label
  pub search : Search (book_machine b) (book_machine d) (states b + 1) (states d) m i c (queue_of (length label) queue) (label_at label)

-- c is a code of both rows
pub record Both (one other : List ℕ) (c : ℕ) : Type 0 where
  pub code : c < length one
  pub first : 0 < get_or one c 0
  pub second : 0 < get_or other c 0

-- the history of place i can be read off the trail, and written with code c after it
pub record Traced (i c : ℕ) (trail : List ℕ) : Type 0 where
  pub falls : EarlierParents (suc i) (first_at trail)
  pub few : i < 255
  pub room : 2 * i + 1 < length trail
  pub byte : c < 256

-- that history, with the code
abbrev pub difference_at : List ℕ → ℕ → ℕ → History
difference_at trail i c = history_at trail i ++ (c ∷ [])

abbrev pub spotted : Option Difference → List ℕ → Maybe History
spotted None trail = none
spotted (Some d) trail = some (difference_at trail d.place d.code)

abbrev pub Writable : Option Difference → List ℕ → Type 0
Writable None trail = Unit
Writable (Some d) trail = Traced d.place d.code trail

-- the search is over
pub record Spotted (b d trail : List ℕ) (spot : Option Difference) : Type 0 where
  pub is : comparison b d ≡ spotted spot trail
  pub writable : Writable spot trail
