-- The three findings on a book that passes, built here or not, are right: over all histories possible in it, each with the earliest history, which has
-- fewer codes than the book has states. It ends in verdict_right.
use mathlib.Core.Path.{◌≡◌, refl, ap, ◌∙◌, subst}
use mathlib.Core.Bool.{Bool, true, not}
use mathlib.Core.List.{List, [], ◌∷◌}
use mathlib.Core.Option.{Option, none, some}
use Prim.Native.Nat.{ℕ, ◌≤◌, ◌<◌}
use native.Mathlib.Nat.{le_trans}
use native.Mathlib.Omega.{arith}
use lib.ListN.{length}
use borrow.Author.Tests.{not-true}
use Rattle.automaton.specs.Below.{lowest_below}
use Rattle.automaton.specs.History.{History, Earliest}
use Rattle.automaton.specs.Machine.{after, possible}
use Rattle.automaton.specs.Explore.{Reached, first_that}
use Rattle.automaton.proofs.Below.{and-true, any_below_law, any_below_at, lowest_below_law, lowest-below_le}
use Rattle.automaton.proofs.Machine.{possible_prefix}
use Rattle.automaton.proofs.Explore.{reached-few}
use Rattle.automaton.proofs.Earliest.{Explored, reached-explored, Passes, first-earliest, first-none}
use Rattle.definitions.specs.Codes.{accept_code, reject_code}
use Rattle.definitions.specs.Book.{events, requests, states, book_machine}
use Rattle.definitions.specs.Refusal.{book_refusal}
use Rattle.definitions.specs.Telling.{acceptable, rejectable, in_conflict, answered, unanswered, some_request}
use Rattle.definitions.specs.Verdict.{Found, states_reached, lowest_request, conflict, missing, is_blocked, blocked, findings}
use Rattle.definitions.specs.Demands.{ConflictAfter, MissingAfter, BlockedAfter, FindingIsRight, VerdictIsRight}
use Rattle.definitions.specs.Checked.{BookPassed}
use Rattle.definitions.proofs.Accepted.{book-passed}
use Rattle.definitions.proofs.BookSteps.{step-inside}
use Rattle.definitions.proofs.BlockedHistories.{unanswered_to, unanswered-from, blocked_to, blocked-from}
use Rattle.definitions.proofs.HistoryTellings.{code_at}
use Rattle.definitions.proofs.FirstHistories.{IsFirstHistory, first-history}

-- ---- the first two findings, for any test
-- h is possible, and the test passes for request r at the state that h leads to
abbrev PassesFor : (List ℕ → ℕ → ℕ → Bool) → List ℕ → History → ℕ → Type 0
PassesFor test b h r = (possible (book_machine b) h ≡ true) × (test b (after (book_machine b) 1 h) r ≡ true)

-- t has the earliest history with some such request, and the lowest of these; the history has fewer codes than there are states
record IsFinding (After : History → ℕ → Type 0) (b : List ℕ) (t : Found) : Type 0 where
  earliest : Earliest (λ h. (r : ℕ) × (r < requests b) × After h r) t.history
  request : (t.request < requests b) × After t.history t.request
  lowest : (r : ℕ) → r < requests b → After t.history r → t.request ≤ r
  short : length t.history < states b

record FindingHolds (After : History → ℕ → Type 0) (b : List ℕ) (finding : Option Found) : Type 0 where
  right : FindingIsRight After (requests b) finding
  short : (t : Found) → finding ≡ some t → length t.history < states b

module _ (b : List ℕ) (found : List Reached) (explored : Explored (book_machine b) found) (few : length found ≤ states b)
    (test : List ℕ → ℕ → ℕ → Bool) (After : History → ℕ → Type 0)
    (to : (h : History) (r : ℕ) → After h r → PassesFor test b h r) (from : (h : History) (r : ℕ) → PassesFor test b h r → After h r) where
  some_request_law : (h : History) (r : ℕ) → r < requests b → After h r → Passes (book_machine b) (some_request test b) h
  some_request_law h r l a = let p = to h r a in (p.0, any_below_law (test b (after (book_machine b) 1 h)) (requests b) r l p.1)

  a_request : (h : History) → Passes (book_machine b) (some_request test b) h → (r : ℕ) × (r < requests b) × After h r
  a_request h p = let r = any_below_at (test b (after (book_machine b) 1 h)) (requests b) p.1 in (r.0, r.1, from h r.0 (p.0, r.2))

  -- the lowest request at a state, with a history
  abbrev lowest_at : History → ℕ → Found
  lowest_at h s = record { request = lowest_below (requests b) (test b s); history = h }

  earliest-finding : (h : History) → Earliest (Passes (book_machine b) (some_request test b)) h → length h < states b
      → IsFinding After b (lowest_at h (after (book_machine b) 1 h))
  earliest-finding h e l = record {
    earliest = (some, λ k p. e.1 k (some_request_law k p.0 p.1 p.2));
    request = (low, from h (lowest_below (requests b) f) (e.0.0, (lowest_below_law f (requests b)).passes low));
    lowest = λ r k a. lowest-below_le f (requests b) r k (to h r a).1;
    short = l;
  }
    where
      f : ℕ → Bool
      f = test b (after (book_machine b) 1 h)

      some : (r : ℕ) × (r < requests b) × After h r
      some = a_request h e.0

      low : lowest_below (requests b) f < requests b
      low = omega (arith, lowest-below_le f (requests b) some.0 some.1 (to h some.0 some.2).1, some.1)

  first-finding : (u : Reached) → first_that (some_request test b) found ≡ some u → IsFinding After b (lowest_at u.history u.state)
  first-finding u e =
      let first = first-earliest (some_request test b) (book_machine b) found explored u e in
      subst (λ (s : ℕ). IsFinding After b (lowest_at u.history s)) first.leads
      (earliest-finding u.history first.earliest (omega (arith, first.short)))

  none_found : (o : Option Reached) → first_that (some_request test b) found ≡ o → lowest_request test b o ≡ none
      → (h : History) (r : ℕ) → r < requests b → After h r → ⊥
  none_found none e q h r l a = first-none (some_request test b) (book_machine b) found explored e h (some_request_law h r l a)
  none_found (some u) e q h r l a = let z : ◌≡◌ {A = ℕ} 0 1 = cc in omega arith

  one_found : (o : Option Reached) → first_that (some_request test b) found ≡ o → (t : Found) → lowest_request test b o ≡ some t → IsFinding After b t
  one_found none e t q = let z : ◌≡◌ {A = ℕ} 0 1 = cc in absurd (omega arith)
  one_found (some u) e t q = let same : lowest_at u.history u.state ≡ t = cc in subst (IsFinding After b) same (first-finding u e)

  finding-holds : FindingHolds After b (lowest_request test b (first_that (some_request test b) found))
  finding-holds =
      let o = first_that (some_request test b) found in
      record {
        right = record {
          no_history = none_found o refl;
          earliest = λ t q. (one_found o refl t q).earliest;
          request = λ t q. (one_found o refl t q).request;
          lowest = λ t q. (one_found o refl t q).lowest;
        };
        short = λ t q. (one_found o refl t q).short;
      }

-- ---- a verdict
module _ (b : List ℕ) (h : History) where
  conflict_to : (r : ℕ) → ConflictAfter (book_machine b) (events b) h r → PassesFor in_conflict b h r
  conflict_to r a = (
    possible_prefix (book_machine b) 1 h (accept_code (events b) r ∷ []) a.0,
    rw (← code_at b h (accept_code (events b) r), ← code_at b h (reject_code (events b) r), a.0) a.1,
  )

  conflict-from : (r : ℕ) → PassesFor in_conflict b h r → ConflictAfter (book_machine b) (events b) h r
  conflict-from r p =
      let both = and-true (acceptable b (after (book_machine b) 1 h) r) (rejectable b (after (book_machine b) 1 h) r) p.1 in
      (code_at b h (accept_code (events b) r) ∙ both.0, code_at b h (reject_code (events b) r) ∙ both.1)

  missing_to : (r : ℕ) → MissingAfter (book_machine b) (events b) h r → PassesFor unanswered b h r
  missing_to r a = (a.0, ap not (unanswered_to b h r a.1))

  missing-from : (r : ℕ) → PassesFor unanswered b h r → MissingAfter (book_machine b) (events b) h r
  missing-from r p = (p.0, unanswered-from b h r (not-true (answered b (after (book_machine b) 1 h) r) p.1))

module _ (b : List ℕ) (ok : BookPassed b) where
  -- at most 127 states are reached, so all of them are
  pub reached-all : length (states_reached b) ≤ states b
  reached-all = reached-few (book_machine b) 127 refl (states b) (step-inside b ok) ok.layout.header.states_some

  pub explored : Explored (book_machine b) (states_reached b)
  explored = reached-explored (book_machine b) 127 refl (le_trans reached-all ok.layout.header.states_most)

  conflict-holds : FindingHolds (ConflictAfter (book_machine b) (events b)) b (conflict b)
  unfolding conflict
  conflict-holds =
      finding-holds b (states_reached b) explored reached-all in_conflict (ConflictAfter (book_machine b) (events b)) (conflict_to b) (conflict-from b)

  missing-holds : FindingHolds (MissingAfter (book_machine b) (events b)) b (missing b)
  unfolding missing
  missing-holds =
      finding-holds b (states_reached b) explored reached-all unanswered (MissingAfter (book_machine b) (events b)) (missing_to b) (missing-from b)

  blocked-holds : IsFirstHistory (BlockedAfter (book_machine b) (events b) (requests b)) (states b) (blocked b)
  unfolding blocked
  blocked-holds =
      first-history (book_machine b) (states_reached b) explored (states b) reached-all (is_blocked b) (BlockedAfter (book_machine b) (events b) (requests b))
      (blocked_to b ok) (blocked-from b ok)

-- what a verdict owes for any book that rows 12 to 14 let pass
pub verdict_right : (b : List ℕ) → book_refusal b ≡ 0 → VerdictIsRight b
unfolding findings conflict missing blocked
verdict_right b passes =
    let ok = (book-passed b).0 passes in
    record {
      findings = record {
        conflict_right = (conflict-holds b ok).right;
        missing_right = (missing-holds b ok).right;
        blocked_right = record { no_history = (blocked-holds b ok).no_history; earliest = (blocked-holds b ok).earliest };
      };
      conflict_short = (conflict-holds b ok).short;
      missing_short = (missing-holds b ok).short;
      blocked_short = (blocked-holds b ok).short;
    }
