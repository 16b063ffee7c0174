-- What the result of the code says in document 02's terms, with the buffer as the call leaves it.
use Rattle.std.specs.Prelude.{List, ℕ, take, Option, None, Some, Result}
use Rattle.std.proofs.Math.Option as Math
use Rattle.automaton.specs.History.{History}
use Rattle.definitions.specs.Answer.{Answer}
use Rattle.refusal.specs.declared.Refusal.{Refusal}
use Rattle.refusal.specs.Refused.{answer_in}

-- no history, or one of so many codes at the front of the buffer
abbrev pub history_shown : List ℕ → Option ℕ → Math.Option History
history_shown buffer None = Math.none
history_shown buffer (Some n) = Math.some (take n buffer)

abbrev pub shown_answer : Result (Option ℕ) Refusal → List ℕ → Answer (Math.Option History)
shown_answer result buffer = answer_in (history_shown buffer) result
