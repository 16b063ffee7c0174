-- The machine of a book that the checks pass: its states are the numbers of its rows, and every list of events is possible in each.
use mathlib.Core.Path.{◌≡◌, refl, ◌∙◌}
use mathlib.Core.Bool.{Bool, cond, true, false, not}
use mathlib.Core.List.{List, [], ◌∷◌}
use Prim.Native.Nat.{ℕ, zero, suc, ◌+◌, ◌-◌, ◌*◌, ◌≤◌, ◌<◌}
use native.Mathlib.Nat.{mul-le-mul_right}
use native.Mathlib.Omega.{arith}
use native.Mathlib.Decide.{dec_lt}
use lib.Dec.{ltb, eqb}
use lib.ListN.{length, get_or-eq_default}
use lib.Seq.{get_or-drop}
use borrow.Author.Tests.{ltb-true, lt-ltb, ne_eqb}
use Rattle.automaton.specs.History.{History}
use Rattle.automaton.specs.Machine.{step, after, is_state}
pub use Rattle.automaton.proofs.Machine.{is_state_law, state-is}
use Rattle.automaton.proofs.Separation.{HasStates}
use Rattle.definitions.specs.Book.{events, width, states, entry, book_machine}
use Rattle.definitions.specs.Demands.{Events}
use Rattle.definitions.proofs.Steps.{step-next}
use Rattle.definitions.specs.Checked.{BookPassed}

-- a state as the code tests it
pub state-test : (s : ℕ) → not (eqb s 0) ≡ is_state s
state-test zero = refl
state-test (suc s) = rw (ne_eqb (suc s) 0 (λ e. omega arith))

-- entry c of row s is the step by c from s
pub step-is-entry : (b : List ℕ) (s c : ℕ) → 1 ≤ s → c < width b → step (book_machine b) s c ≡ entry b s c
step-is-entry b s c some l = step-next (book_machine b) s c (is_state_law s some) l

module _ (b : List ℕ) (ok : BookPassed b) where
  -- past the rows there are no entries
  pub entry_past : (i c : ℕ) → states b ≤ i → entry b (suc i) c ≡ 0
  entry_past i c l = get_or-drop (12 + (suc i - 1) * width b) b c 0 ∙ get_or-eq_default b 0 past
    where
      past : length b ≤ 12 + (suc i - 1) * width b + c
      past =
          let same : suc i - 1 ≡ i = omega arith in
          rw same (omega (arith, ok.layout.exact, mul-le-mul_right (width b) l))

  entry-inside : (i c : ℕ) → c < width b → entry b (suc i) c ≤ states b
  entry-inside i c k = go (dec_lt i (states b))
    where
      go : Dec (i < states b) → entry b (suc i) c ≤ states b
      go (yes l) = ok.entry_most (suc i) c (omega arith) l k
      go (no l) = omega (arith, entry_past i c (omega arith))

  pub step-inside : (s c : ℕ) → step (book_machine b) s c ≤ states b
  step-inside zero c = omega arith
  step-inside (suc i) c = go (ltb c (width b)) refl
    where
      go : (t : Bool) → ltb c (width b) ≡ t → cond t (entry b (suc i) c) 0 ≤ states b
      go true e = entry-inside i c (ltb-true c (width b) e)
      go false e = omega arith

  pub has-states : HasStates (book_machine b) (states b)
  has-states = record { start = record { least = omega arith; most = ok.layout.header.states_some }; steps = step-inside }

  -- an event is possible in each state
  event_state : (s e : ℕ) → s ≤ states b → is_state s ≡ true → e < events b → is_state (step (book_machine b) s e) ≡ true
  event_state zero e l p k = p
  event_state (suc i) e l p k = rw (lt-ltb e (width b) (omega arith)) (is_state_law (entry b (suc i) e) (ok.event_entry_some (suc i) e (omega arith) l k))

  -- and so is every list of events
  pub events_possible_law : (s : ℕ) (es : History) → s ≤ states b → is_state s ≡ true → Events (events b) es → is_state (after (book_machine b) s es) ≡ true
  events_possible_law s [] l p all = p
  events_possible_law s (e ∷ es) l p all =
      events_possible_law (step (book_machine b) s e) es (step-inside s e) (event_state s e l p (all 0 (omega arith))) (λ i k. all (suc i) (omega arith))
