-- Verdict: three findings "over all histories possible" in a book. Each is the first state in the order of earliest histories that passes a test.
use Rattle.std.specs.Prelude.{Bool, true, false, ◌&&◌, List, ℕ, leb, length}
use Rattle.std.proofs.Math.Option.{Option, none, some}
use Rattle.automaton.specs.Below.{lowest_below}
use Rattle.automaton.specs.History.{History}
use Rattle.automaton.specs.Machine.{Machine}
use Rattle.automaton.specs.Explore.{Reached, reached, first_that}
use Rattle.definitions.specs.Answer.{judge, Answer, answer, after_call, history_bytes}
use Rattle.definitions.specs.Book.{events, requests, book_machine}
use Rattle.definitions.specs.Refusal.{book_refusal}
use Rattle.definitions.specs.Telling.{in_conflict, answered, unanswered, some_request}

-- ---- "the earliest such history and, for the first two, the lowest such request"
pub record Found : Type 0 where
  pub request : ℕ
  pub history : History

-- the states of a book, in the order of their earliest history
abbrev pub states_reached : List ℕ → List Reached
states_reached b = reached (book_machine b) 127

abbrev pub lowest_request : (List ℕ → ℕ → ℕ → Bool) → List ℕ → Option Reached → Option Found
lowest_request test b none = none
lowest_request test b (some t) = some (record { request = lowest_below (requests b) (test b t.state); history = t.history })

abbrev pub finding : (List ℕ → ℕ → ℕ → Bool) → List ℕ → Option Found
finding test b = lowest_request test b (first_that (some_request test b) (states_reached b))

unfoldable pub conflict : List ℕ → Option Found
conflict b = finding in_conflict b

unfoldable pub missing : List ℕ → Option Found
missing b = finding unanswered b

-- the book with its events only, from state s on
abbrev pub events_from : List ℕ → ℕ → Machine
events_from b s = record { width = events b; start = s; next = (book_machine b).next }

abbrev pub is_none {ℓ} : {A : Type ℓ} → Option A → Bool
is_none none = true
is_none (some x) = false

-- "no request is answered, now or after any list of events (definition 2)"
abbrev pub is_blocked : List ℕ → ℕ → Bool
is_blocked b s = is_none (first_that (some_request answered b) (reached (events_from b s) 127))

abbrev pub history_of : Option Reached → Option History
history_of none = none
history_of (some t) = some t.history

unfoldable pub blocked : List ℕ → Option History
blocked b = history_of (first_that (is_blocked b) (states_reached b))

-- the history of a finding
abbrev pub found_history : Option Found → Option History
found_history none = none
found_history (some t) = some t.history

-- ---- the call, with a buffer for each finding's history

-- row 1, "buffer under 128 (each verdict buffer)", then rows 12 to 14
unfoldable pub verdict_refusal : List ℕ → List ℕ → List ℕ → List ℕ → ℕ
unfolding book_refusal
verdict_refusal b for_conflict for_missing for_blocked =
    judge 1 (leb 128 (length for_conflict) && leb 128 (length for_missing) && leb 128 (length for_blocked)) (book_refusal b)

pub record Findings : Type 0 where
  pub conflict : Option Found
  pub missing : Option Found
  pub blocked : Option History

unfoldable pub findings : List ℕ → Findings
unfolding conflict missing blocked
findings b = record { conflict = conflict b; missing = missing b; blocked = blocked b }

unfoldable pub verdict_answer : List ℕ → List ℕ → List ℕ → List ℕ → Answer Findings
unfolding verdict_refusal findings
verdict_answer b for_conflict for_missing for_blocked =
    let found = findings b in answer (verdict_refusal b for_conflict for_missing for_blocked) found

-- the three buffers afterwards
pub record Buffers : Type 0 where
  pub for_conflict : List ℕ
  pub for_missing : List ℕ
  pub for_blocked : List ℕ

unfoldable pub verdict_buffers : List ℕ → List ℕ → List ℕ → List ℕ → Buffers
unfolding verdict_refusal conflict missing blocked
verdict_buffers b for_conflict for_missing for_blocked =
    let refusal = verdict_refusal b for_conflict for_missing for_blocked in
    record {
      for_conflict = after_call refusal (history_bytes (found_history (conflict b))) for_conflict;
      for_missing = after_call refusal (history_bytes (found_history (missing b))) for_missing;
      for_blocked = after_call refusal (history_bytes (blocked b)) for_blocked;
    }
