-- The states of a book that passes the checks, as a search has found them.
use mathlib.Core.Path.{◌≡◌, sym, ap}
use mathlib.Core.Bool.{Bool}
use mathlib.Core.List.{List}
use Prim.Native.Nat.{ℕ, ◌≤◌, ◌<◌}
use native.Mathlib.Nat.{le_trans}
use Rattle.automaton.specs.Explore.{first_that}
use Rattle.automaton.specs.Machine.{after}
use Rattle.definitions.specs.Bytes.{byte}
use Rattle.definitions.specs.Book.{states, book_machine}
use Rattle.definitions.specs.Checked.{BookPassed}
use Rattle.definitions.specs.Verdict.{states_reached}
use Rattle.definitions.proofs.BookSteps.{has-states}
use Rattle.search.specs.Trail.{history_at}
use Rattle.search.specs.Found.{found_in, Holds, StatesIn, book_states}
use Rattle.search.proofs.Found.{holds-length, holds-inside, holds-leads, holds-once, holds-some, reached-most}

module _ (b : List ℕ) {n : ℕ} {order trail : List ℕ} (H : Holds (book_states b) n order trail) where
  -- the first that passes a test
  pub book-first : (test : ℕ → Bool) → first_that test (states_reached b) ≡ first_that test (found_in n order trail)
  unfolding book_states
  book-first test = ap (first_that test) (sym H.are)

  module _ (p : BookPassed b) where
    pub book-most : n ≤ states b
    unfolding book_states
    book-most = rw (holds-length H) (reached-most (book_machine b) (states b) (has-states b p))

    pub book-few : n ≤ 127
    book-few = le_trans book-most p.layout.header.states_most

    pub book-inside : StatesIn b n order
    unfolding book_states
    book-inside = holds-inside (book_machine b) (states b) (has-states b p) H

    -- each state stands at one place
    pub book-once : (j k : ℕ) → j < k → k < n → byte order j ≡ byte order k → ⊥
    unfolding book_states
    book-once = holds-once (book_machine b) (states b) (has-states b p) H

    pub book-some : 1 ≤ n
    unfolding book_states
    book-some = holds-some (book_machine b) (states b) (has-states b p) H

    pub book-leads : (k : ℕ) → k < n → after (book_machine b) 1 (history_at trail k) ≡ byte order k
    unfolding book_states
    book-leads = holds-leads (book_machine b) (states b) (has-states b p) H
