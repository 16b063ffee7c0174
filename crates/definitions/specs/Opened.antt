-- The opened book: "keeps the lent bytes and the state reached so far", tells what is possible for a request, and takes steps.
use Rattle.std.specs.Prelude.{Bool, cond, ◌&&◌, List, [], ◌∷◌, ℕ, ltb, eqb}
use Rattle.automaton.specs.History.{History}
use Rattle.automaton.specs.Machine.{step, is_state}
use Rattle.definitions.specs.Answer.{judge, then_judge, Answer, answer}
use Rattle.definitions.specs.Bytes.{within}
use Rattle.definitions.specs.Book.{requests, width, states, book_machine}
use Rattle.definitions.specs.Refusal.{book_refusal}
use Rattle.definitions.specs.Telling.{Telling, telling}

-- "Opening takes rows 12 to 14 and starts at state 1"
unfoldable pub open_refusal : List ℕ → ℕ
unfolding book_refusal
open_refusal b = book_refusal b

unfoldable pub open_answer : List ℕ → Answer ℕ
unfolding open_refusal
open_answer b = answer (open_refusal b) 1

-- "opened state outside 1 to n; request not below Q; code not below w; step not possible"
abbrev pub state_holds : List ℕ → ℕ → Bool
state_holds b s = within 1 s (states b)

-- "each later call takes those rows again", then row 16
unfoldable pub tell_refusal : List ℕ → ℕ → ℕ → ℕ
unfolding book_refusal
tell_refusal b s r = then_judge (book_refusal b) (judge 16 (state_holds b s && ltb r (requests b)) 0)

unfoldable pub tell_answer : List ℕ → ℕ → ℕ → Answer Telling
unfolding tell_refusal telling
tell_answer b s r = let told = telling b s r in answer (tell_refusal b s r) told

unfoldable pub step_refusal : List ℕ → ℕ → ℕ → ℕ
unfolding book_refusal
step_refusal b s c = then_judge (book_refusal b) (judge 16 (state_holds b s && ltb c (width b) && is_state (step (book_machine b) s c)) 0)

-- the state after a step was tried: where it is refused, "an opened book's state stays"
unfoldable pub step_state : List ℕ → ℕ → ℕ → ℕ
unfolding step_refusal
step_state b s c = let there = step (book_machine b) s c in cond (eqb (step_refusal b s c) 0) there s

-- the state after a list of steps was tried, and "the history of the steps not refused"
abbrev pub walk_state : List ℕ → ℕ → List ℕ → ℕ
walk_state b s [] = s
walk_state b s (c ∷ cs) = walk_state b (step_state b s c) cs

abbrev pub walk_history : List ℕ → ℕ → List ℕ → History
walk_history b s [] = []
walk_history b s (c ∷ cs) = let rest = walk_history b (step_state b s c) cs in cond (eqb (step_refusal b s c) 0) (c ∷ rest) rest
