-- What the answer of the code says in document 01's terms, with the buffer as the call leaves it.
use Rattle.std.specs.Prelude.{Option, None, Some, Result, List, ℕ, take}
use Rattle.std.proofs.Math.Option as Maybe
use Rattle.automaton.specs.History.{History}
use Rattle.definitions.specs.Answer.{Answer}
use Rattle.refusal.specs.declared.Refusal.{Refusal}
use Rattle.refusal.specs.Refused.{answer_in}

-- the history at the front of the buffer, if there is one
abbrev pub difference_in : List ℕ → Option ℕ → Maybe.Option History
difference_in history None = Maybe.none
difference_in history (Some n) = Maybe.some (take n history)

abbrev pub compared_answer : Result (Option ℕ) Refusal → List ℕ → Answer (Maybe.Option History)
compared_answer result history = answer_in (difference_in history) result
