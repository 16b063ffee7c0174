-- What the answer of `build` says: document 01's number of a refusal, or the length of the book.
use Rattle.std.specs.Prelude.{ℕ, Result}
use Rattle.definitions.specs.Answer.{Answer}
use Rattle.refusal.specs.declared.Refusal.{Refusal}
use Rattle.refusal.specs.Refused.{answer_in}

abbrev pub built_answer : Result ℕ Refusal → Answer ℕ
built_answer = answer_in (λ length. length)
