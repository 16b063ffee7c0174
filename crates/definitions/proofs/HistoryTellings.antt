-- What may happen after a history in a book is what the state that it leads to tells.
use mathlib.Core.Path.{◌≡◌, ap}
use mathlib.Core.List.{List, [], ◌∷◌, ◌++◌}
use Prim.Native.Nat.{ℕ}
use Rattle.automaton.specs.History.{History}
use Rattle.automaton.specs.Machine.{step, after, is_state, possible}
use Rattle.automaton.proofs.Machine.{after_append}
use Rattle.definitions.specs.Codes.{accept_code, reject_code}
use Rattle.definitions.specs.Book.{events, book_machine}
use Rattle.definitions.specs.Telling.{telling}
use Rattle.definitions.specs.Demands.{telling_after}

module _ (b : List ℕ) (h : History) where
  pub code_at : (c : ℕ) → possible (book_machine b) (h ++ (c ∷ [])) ≡ is_state (step (book_machine b) (after (book_machine b) 1 h) c)
  code_at c = ap is_state (after_append (book_machine b) 1 h (c ∷ []))

  pub telling_at : (r : ℕ) → telling b (after (book_machine b) 1 h) r ≡ telling_after (book_machine b) (events b) h r
  unfolding telling
  telling_at r = rw (code_at (accept_code (events b) r), code_at (reject_code (events b) r))
