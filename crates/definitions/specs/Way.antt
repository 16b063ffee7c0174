-- A way to a decision (request 3 of document 02): "find the earliest possible history after which the request has that outcome, or say that no history does".
use Rattle.std.specs.Prelude.{Bool, List, ℕ, eqb, leb, ltb, length}
use Rattle.std.proofs.Math.Option.{Option}
use Rattle.automaton.specs.History.{History}
use Rattle.automaton.specs.Explore.{first_that}
use Rattle.definitions.specs.Answer.{judge, then_judge, Answer, answer, after_call, history_bytes}
use Rattle.definitions.specs.Book.{requests}
use Rattle.definitions.specs.Refusal.{book_refusal}
use Rattle.definitions.specs.Telling.{telling, outcome_of}
use Rattle.definitions.specs.Verdict.{states_reached, history_of}

-- at state s request r has that outcome
abbrev pub has_outcome : List ℕ → ℕ → ℕ → ℕ → Bool
has_outcome b r outcome s = eqb (outcome_of (telling b s r)) outcome

-- the history of the first state, in the order of earliest histories, at which it has that outcome; none where there is no such state
unfoldable pub way : List ℕ → ℕ → ℕ → Option History
unfolding telling
way b r outcome = history_of (first_that (has_outcome b r outcome) (states_reached b))

-- ---- the call
-- "a short buffer gives 1"; rows 12 to 14; "18, outcome above 3, after 14 and before 16"; row 16, "request not below Q"
unfoldable pub way_refusal : List ℕ → ℕ → ℕ → List ℕ → ℕ
unfolding book_refusal
way_refusal b r outcome buffer =
    judge 1 (leb 128 (length buffer)) (then_judge (book_refusal b) (judge 18 (leb outcome 3) (judge 16 (ltb r (requests b)) 0)))

unfoldable pub way_answer : List ℕ → ℕ → ℕ → List ℕ → Answer (Option History)
unfolding way_refusal way
way_answer b r outcome buffer = let found = way b r outcome in answer (way_refusal b r outcome buffer) found

-- "the rest of the buffer, and all of it on no history, stays"
unfoldable pub way_buffer : List ℕ → ℕ → ℕ → List ℕ → List ℕ
unfolding way_refusal way
way_buffer b r outcome buffer = after_call (way_refusal b r outcome buffer) (history_bytes (way b r outcome)) buffer
