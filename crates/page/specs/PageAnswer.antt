-- What the result of `page` says: document 01's number of a refusal, or how many bytes were written.
use Rattle.std.specs.Prelude.{ℕ, Result}
use Rattle.definitions.specs.Answer.{Answer}
use Rattle.refusal.specs.declared.Refusal.{Refusal}
use Rattle.refusal.specs.Refused.{answer_in}

abbrev pub paged_answer : Result ℕ Refusal → Answer ℕ
paged_answer result = answer_in (λ length. length) result
