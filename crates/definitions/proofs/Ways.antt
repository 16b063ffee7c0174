-- The way to a decision in a book that passes, built here or not, is right: the earliest history after which the request has the outcome, which has fewer codes than
-- the book has states, and none exactly where there is no such history. It ends in ways-right.
use mathlib.Core.Path.{◌≡◌, refl, sym, ap, ◌∙◌}
use mathlib.Core.List.{List}
use mathlib.Core.Option.{Option, none, some}
use Prim.Native.Nat.{ℕ}
use borrow.Author.Tests.{eqb-true, eq-eqb}
use Rattle.automaton.specs.History.{History, Earliest}
use Rattle.automaton.specs.Machine.{Machine, after}
use Rattle.automaton.proofs.Earliest.{Passes}
use Rattle.definitions.specs.Book.{events, states, book_machine}
use Rattle.definitions.specs.Refusal.{book_refusal}
use Rattle.definitions.specs.Checked.{BookPassed}
use Rattle.definitions.specs.Telling.{telling, outcome_of}
use Rattle.definitions.specs.Verdict.{states_reached}
use Rattle.definitions.specs.Way.{has_outcome, way}
use Rattle.definitions.specs.Demands.{telling_after, OutcomeAfter, WayIsRight, WaysAreRight}
use Rattle.definitions.proofs.Accepted.{book-passed}
use Rattle.definitions.proofs.HistoryTellings.{telling_at}
use Rattle.definitions.proofs.Verdicts.{explored, reached-all}
use Rattle.definitions.proofs.FirstHistories.{IsFirstHistory, first-history}

-- the earliest history with a property is a way, where the property is that of the outcome
way-is : (m : Machine) (E r outcome n : ℕ) (shown : Option History) → IsFirstHistory (OutcomeAfter m E r outcome) n shown → WayIsRight m E r outcome shown
way-is m E r outcome n shown first = record { no_history = (first.no_history, nowhere shown first.earliest); earliest = first.earliest }
  where
    nowhere : (o : Option History) → ((h : History) → o ≡ some h → Earliest (OutcomeAfter m E r outcome) h) → ((h : History) → OutcomeAfter m E r outcome h → ⊥) → o ≡ none
    nowhere none earliest never = refl
    nowhere (some h) earliest never = absurd (never h (earliest h refl).0)

module _ (b : List ℕ) (ok : BookPassed b) (r outcome : ℕ) where
  abbrev m : Machine
  m = book_machine b

  outcome_at : (h : History) → outcome_of (telling b (after m 1 h) r) ≡ outcome_of (telling_after m (events b) h r)
  outcome_at h = ap outcome_of (telling_at b h r)

  outcome_to : (h : History) → OutcomeAfter m (events b) r outcome h → Passes m (has_outcome b r outcome) h
  outcome_to h a = (a.0, eq-eqb (outcome_of (telling b (after m 1 h) r)) outcome (outcome_at h ∙ a.1))

  outcome_from : (h : History) → Passes m (has_outcome b r outcome) h → OutcomeAfter m (events b) r outcome h
  outcome_from h p = (p.0, sym (outcome_at h) ∙ eqb-true (outcome_of (telling b (after m 1 h) r)) outcome p.1)

  way-first : IsFirstHistory (OutcomeAfter m (events b) r outcome) (states b) (way b r outcome)
  unfolding way
  way-first =
      first-history m (states_reached b) (explored b ok) (states b) (reached-all b ok) (has_outcome b r outcome) (OutcomeAfter m (events b) r outcome)
      outcome_to outcome_from

-- what the way owes for any book that rows 12 to 14 let pass
pub ways-right : (b : List ℕ) → book_refusal b ≡ 0 → WaysAreRight b
ways-right b passes =
    let ok = (book-passed b).0 passes in
    record {
      ways = λ r outcome. way-is (book_machine b) (events b) r outcome (states b) (way b r outcome) (way-first b ok r outcome);
      short = λ r outcome. (way-first b ok r outcome).short;
    }
