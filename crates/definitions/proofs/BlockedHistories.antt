-- Blocking in a book that the checks pass: the test of a state, that no state which events lead to from it answers a request, says that no request is
-- answered after the history that led to the state, now or after any list of events. It ends in blocked_to and blocked-from.
use mathlib.Core.Path.{◌≡◌, refl, sym, ap, ◌∙◌}
use mathlib.Core.Bool.{Bool, true, false, false≢true, true≢false, ◌||◌}
use mathlib.Core.Logic.{◌↔◌}
use mathlib.Core.List.{List, [], ◌∷◌, ◌++◌}
use mathlib.Core.Option.{Option, none, some}
use Prim.Native.Nat.{ℕ, zero, suc, ◌≤◌, ◌<◌}
use native.Mathlib.Nat.{le_trans}
use native.Mathlib.Omega.{arith}
use native.Mathlib.Decide.{dec_lt}
use borrow.Author.Tests.{lt-ltb}
use Rattle.automaton.specs.History.{History}
use Rattle.automaton.specs.Machine.{step, after, is_state}
use Rattle.automaton.specs.Explore.{Reached, reached, first_that}
use Rattle.automaton.proofs.Below.{any_below_law, any_below_at}
use Rattle.automaton.proofs.Machine.{step_past, after_append, possible_codes}
use Rattle.automaton.proofs.Explore.{reached-few}
use Rattle.automaton.proofs.Earliest.{Explored, reached-explored, Passes, first-earliest, first-none}
use Rattle.automaton.proofs.Separation.{after-within}
use Rattle.definitions.specs.Codes.{accept_code, reject_code}
use Rattle.definitions.specs.Book.{events, requests, width, states, book_machine}
use Rattle.definitions.specs.Telling.{acceptable, rejectable, answered, some_request}
use Rattle.definitions.specs.Verdict.{events_from, is_none, is_blocked}
use Rattle.definitions.specs.Demands.{Unanswered, Events, BlockedAfter}
use Rattle.definitions.specs.Checked.{BookPassed}
use Rattle.definitions.proofs.BookSteps.{step-inside, has-states, events_possible_law}
use Rattle.definitions.proofs.HistoryTellings.{code_at}

neither_true : (a c : Bool) → (a || c) ≡ false → (a ≡ false) × (c ≡ false)
neither_true true c e = absurd (true≢false e)
neither_true false c e = (refl, e)

-- ---- an unanswered request
module _ (b : List ℕ) (h : History) where
  pub unanswered_to : (r : ℕ) → Unanswered (book_machine b) (events b) h r → answered b (after (book_machine b) 1 h) r ≡ false
  unanswered_to r a = rw (← code_at b h (accept_code (events b) r), ← code_at b h (reject_code (events b) r), a.0) a.1

  pub unanswered-from : (r : ℕ) → answered b (after (book_machine b) 1 h) r ≡ false → Unanswered (book_machine b) (events b) h r
  unanswered-from r p =
      let both = neither_true (acceptable b (after (book_machine b) 1 h) r) (rejectable b (after (book_machine b) 1 h) r) p in
      (code_at b h (accept_code (events b) r) ∙ both.0, code_at b h (reject_code (events b) r) ∙ both.1)

-- ---- the events from state s are those of the book
module _ (b : List ℕ) (s : ℕ) where
  events-step : (t e : ℕ) → e < events b → step (events_from b s) t e ≡ step (book_machine b) t e
  events-step zero e k = refl
  events-step (suc t) e k = rw (lt-ltb e (events b) k, lt-ltb e (width b) (omega arith))

  events-after : (t : ℕ) (es : History) → Events (events b) es → after (events_from b s) t es ≡ after (book_machine b) t es
  events-after t [] all = refl
  events-after t (e ∷ es) all =
      events-after (step (events_from b s) t e) es (λ i k. all (suc i) (omega arith))
      ∙ ap (λ (u : ℕ). after (book_machine b) u es) (events-step t e (all 0 (omega arith)))

  events-inside : BookPassed b → (t e : ℕ) → step (events_from b s) t e ≤ states b
  events-inside ok t e = go (dec_lt e (events b))
    where
      go : Dec (e < events b) → step (events_from b s) t e ≤ states b
      go (yes k) = rw (events-step t e k) (step-inside b ok t e)
      go (no k) = rw (step_past (events_from b s) t e (omega arith)) (omega arith)

-- ---- a state from which no request is answered, now or after any list of events
abbrev NoneAnswered : List ℕ → ℕ → Type 0
NoneAnswered b s = (es : History) → Events (events b) es → (r : ℕ) → r < requests b → answered b (after (book_machine b) s es) r ≡ false

module _ (b : List ℕ) (ok : BookPassed b) (s : ℕ) (inside : s ≤ states b) (state : is_state s ≡ true) where
  -- events that lead to an answer
  answer-passes : (es : History) → Events (events b) es → (r : ℕ) → r < requests b → answered b (after (book_machine b) s es) r ≡ true
      → Passes (events_from b s) (some_request answered b) es
  answer-passes es all r l q = (
    ap is_state (events-after b s s es all) ∙ events_possible_law b ok s es inside state all,
    ap (some_request answered b) (events-after b s s es all) ∙ any_below_law (answered b (after (book_machine b) s es)) (requests b) r l q,
  )

  passes-answer : (es : History) → Passes (events_from b s) (some_request answered b) es → NoneAnswered b s → ⊥
  passes-answer es p a =
      let all : Events (events b) es = possible_codes (events_from b s) s es p.0 in
      let hit = any_below_at (answered b (after (book_machine b) s es)) (requests b) (ap (some_request answered b) (sym (events-after b s s es all)) ∙ p.1) in
      false≢true (sym (a es all hit.0 hit.1) ∙ hit.2)

  module _ (found : List Reached) (explored : Explored (events_from b s) found) where
    blocked-state : (o : Option Reached) → first_that (some_request answered b) found ≡ o → is_none o ≡ true → NoneAnswered b s
    blocked-state (some u) e q es all r l = absurd (false≢true q)
    blocked-state none e q es all r l = go (answered b (after (book_machine b) s es) r) refl
      where
        go : (t : Bool) → answered b (after (book_machine b) s es) r ≡ t → t ≡ false
        go false q = refl
        go true q = absurd (first-none (some_request answered b) (events_from b s) found explored e es (answer-passes es all r l q))

    state-blocked : (o : Option Reached) → first_that (some_request answered b) found ≡ o → NoneAnswered b s → is_none o ≡ true
    state-blocked none e a = refl
    state-blocked (some u) e a =
        absurd (passes-answer u.history (first-earliest (some_request answered b) (events_from b s) found explored u e).earliest.0 a)

  -- at most 127 states are reached by events, so all of them are
  events_explored : Explored (events_from b s) (reached (events_from b s) 127)
  events_explored =
      reached-explored (events_from b s) 127 state
      (le_trans (reached-few (events_from b s) 127 state (states b) (events-inside b s ok) inside) ok.layout.header.states_most)

  is_blocked_law : (is_blocked b s ≡ true) ↔ NoneAnswered b s
  is_blocked_law =
      let found = reached (events_from b s) 127 in
      let o = first_that (some_request answered b) found in
      (blocked-state found events_explored o refl, state-blocked found events_explored o refl)

-- ---- the state that a history leads to is blocked exactly if no request is answered after the history, now or after any list of events
module _ (b : List ℕ) (ok : BookPassed b) (h : History) where
  abbrev s : ℕ
  s = after (book_machine b) 1 h

  s-inside : s ≤ states b
  s-inside = after-within (book_machine b) (states b) (has-states b ok) 1 ok.layout.header.states_some h

  answered-after : (es : History) (r : ℕ) → answered b (after (book_machine b) 1 (h ++ es)) r ≡ answered b (after (book_machine b) s es) r
  answered-after es r = ap (λ (t : ℕ). answered b t r) (after_append (book_machine b) 1 h es)

  pub blocked_to : BlockedAfter (book_machine b) (events b) (requests b) h → Passes (book_machine b) (is_blocked b) h
  blocked_to a =
      (a.0, (is_blocked_law b ok s s-inside a.0).1 (λ es all r l. sym (answered-after es r) ∙ unanswered_to b (h ++ es) r (a.1 es all r l)))

  pub blocked-from : Passes (book_machine b) (is_blocked b) h → BlockedAfter (book_machine b) (events b) (requests b) h
  blocked-from p =
      (p.0, λ es all r l. unanswered-from b (h ++ es) r (answered-after es r ∙ (is_blocked_law b ok s s-inside p.0).0 p.1 es all r l))
