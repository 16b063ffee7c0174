-- The states of the book of an accepted policy: possible histories lead to them, they are numbered by their earliest histories, and two histories lead to one
-- state exactly when the same histories are possible after each. It ends in states-right.
use mathlib.Core.Path.{◌≡◌, sym, subst, subst₂, fun_ext}
use mathlib.Core.Logic.{◌↔◌}
use mathlib.Core.List.{List}
use Prim.Native.Nat.{ℕ, ◌≤◌}
use lib.ListN.{length}
use Rattle.automaton.specs.History.{History}
use Rattle.automaton.specs.Machine.{after}
use Rattle.automaton.specs.Table.{tabled}
use Rattle.automaton.proofs.Numbered.{Numbered, smaller_is_earlier}
use Rattle.automaton.proofs.Minimal.{tidy-led, tidy-joined}
use Rattle.definitions.specs.Policy as P
use Rattle.definitions.specs.Situation.{policy_machine}
use Rattle.definitions.specs.Book as B
use Rattle.definitions.specs.Refusal.{Accepted}
use Rattle.definitions.specs.Build.{book_rows, book_of}
use Rattle.definitions.specs.Demands.{SameAfter, StatesAreRight}
use Rattle.definitions.proofs.BookOf.{rows-tidy, built_states, built_after}

module _ (p : List ℕ) (accepted : Accepted p) where
  abbrev rows : List (List ℕ)
  rows = book_rows p

  -- the state of the book that a history leads to
  abbrev leads : History → ℕ
  leads = after (B.book_machine (book_of p)) 1

  -- it is the row that it leads to in the table
  leads_in_table : after (tabled (P.width p) rows) 1 ≡ leads
  leads_in_table = fun_ext (λ h. sym (built_after p accepted h))

  rows-are-states : length rows ≡ B.states (book_of p)
  rows-are-states = sym (built_states p accepted)

  book-numbered : Numbered leads (B.states (book_of p))
  book-numbered = subst₂ Numbered leads_in_table rows-are-states (rows-tidy p accepted).numbered

  pub states-right : StatesAreRight (policy_machine p) (book_of p)
  states-right = record {
    led = λ h q.
        subst₂ (λ (f : History → ℕ) (n : ℕ). (1 ≤ f h) × (f h ≤ n)) leads_in_table rows-are-states
        (tidy-led (P.width p) (policy_machine p) rows (rows-tidy p accepted) h q);
    reached = λ s l. (book-numbered.history s, book-numbered.earliest s l.0 l.1);
    numbered = smaller_is_earlier leads (B.states (book_of p)) book-numbered;
    joined = λ g h.
        subst (λ (f : History → ℕ). (f g ≡ f h) ↔ SameAfter (policy_machine p) g h) leads_in_table
        (tidy-joined (P.width p) (policy_machine p) rows (rows-tidy p accepted) g h);
  }
