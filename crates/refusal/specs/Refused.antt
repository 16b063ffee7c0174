-- Document 01's number of each refusal, and what a result says in its words: the number of a refusal, or an answer.
use Rattle.std.specs.Prelude.{ℕ, Result, Ok, Err}
use Rattle.definitions.specs.Answer.{Answer, refused, given}
use Rattle.refusal.specs.declared.Refusal.{Refusal}
use Rattle.refusal.specs.declared.Refusal.TheVariants.{ShortBuffer, ShortPolicy, PolicyMark, PolicyVersion, PolicyRange, PolicyLength, ValueCount, Mask, RuleValue, Valuations, Situations, BookHeader, BookLayout, BookEntry, Frames, NotInBook, Start, UnknownOutcome}

abbrev pub number_of : Refusal → ℕ
number_of ShortBuffer = 1
number_of ShortPolicy = 2
number_of PolicyMark = 3
number_of PolicyVersion = 4
number_of PolicyRange = 5
number_of PolicyLength = 6
number_of ValueCount = 7
number_of Mask = 8
number_of RuleValue = 9
number_of Valuations = 10
number_of Situations = 11
number_of BookHeader = 12
number_of BookLayout = 13
number_of BookEntry = 14
number_of Frames = 15
number_of NotInBook = 16
number_of Start = 17
number_of UnknownOutcome = 18

-- the number of the refusal, 0 where there is none
abbrev pub refusal_in : {A : Type 0} → Result A Refusal → ℕ
refusal_in (Ok value) = 0
refusal_in (Err refusal) = number_of refusal

-- what a call answers, where `value` reads what it gives
abbrev pub answer_in : {A B : Type 0} → (A → B) → Result A Refusal → Answer B
answer_in value (Ok x) = given (value x)
answer_in value (Err refusal) = refused (number_of refusal)
