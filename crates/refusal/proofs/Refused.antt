-- A refusal has a number, which is never 0: so a call is refused exactly where its result is an error.
use Rattle.std.proofs.Common.{◌≡◌, ℕ, zero, suc, ◌-◌, ◌≤◌, [], ◌∷◌, get_or, refl, lit≤, not-suc-le-zero}
use Rattle.definitions.specs.Answer.{answer, refused}
use Rattle.refusal.specs.declared.Refusal.{Refusal}
use Rattle.refusal.specs.declared.Refusal.TheVariants.{ShortBuffer, ShortPolicy, PolicyMark, PolicyVersion, PolicyRange, PolicyLength, ValueCount, Mask, RuleValue, Valuations, Situations, BookHeader, BookLayout, BookEntry, Frames, NotInBook, Start, UnknownOutcome}
use Rattle.refusal.specs.Refused.{number_of}

pub some_number : (r : Refusal) → 1 ≤ number_of r
some_number ShortBuffer = lit≤ tt
some_number ShortPolicy = lit≤ tt
some_number PolicyMark = lit≤ tt
some_number PolicyVersion = lit≤ tt
some_number PolicyRange = lit≤ tt
some_number PolicyLength = lit≤ tt
some_number ValueCount = lit≤ tt
some_number Mask = lit≤ tt
some_number RuleValue = lit≤ tt
some_number Valuations = lit≤ tt
some_number Situations = lit≤ tt
some_number BookHeader = lit≤ tt
some_number BookLayout = lit≤ tt
some_number BookEntry = lit≤ tt
some_number Frames = lit≤ tt
some_number NotInBook = lit≤ tt
some_number Start = lit≤ tt
some_number UnknownOutcome = lit≤ tt

-- a call that is refused by the number n answers it
pub answer-refused : {B : Type 0} (n : ℕ) (v : B) → 1 ≤ n → refused n ≡ answer n v
answer-refused zero v some = absurd (not-suc-le-zero some)
answer-refused (suc n) v some = refl

pub answer-err : {B : Type 0} (r : Refusal) (n : ℕ) (v : B) → number_of r ≡ n → refused (number_of r) ≡ answer n v
answer-err r n v e = rw e (answer-refused n v (rw e at (some_number r)))

-- ---- the refusal with a number
abbrev pub refusal_of : ℕ → Refusal
refusal_of number =
    get_or (ShortBuffer ∷ ShortPolicy ∷ PolicyMark ∷ PolicyVersion ∷ PolicyRange ∷ PolicyLength ∷ ValueCount ∷ Mask ∷ RuleValue ∷ Valuations ∷ Situations
    ∷ BookHeader ∷ BookLayout ∷ BookEntry ∷ Frames ∷ NotInBook ∷ Start ∷ []) (number - 1) UnknownOutcome

pub refusal-is : (r : Refusal) → r ≡ refusal_of (number_of r)
refusal-is ShortBuffer = refl
refusal-is ShortPolicy = refl
refusal-is PolicyMark = refl
refusal-is PolicyVersion = refl
refusal-is PolicyRange = refl
refusal-is PolicyLength = refl
refusal-is ValueCount = refl
refusal-is Mask = refl
refusal-is RuleValue = refl
refusal-is Valuations = refl
refusal-is Situations = refl
refusal-is BookHeader = refl
refusal-is BookLayout = refl
refusal-is BookEntry = refl
refusal-is Frames = refl
refusal-is NotInBook = refl
refusal-is Start = refl
refusal-is UnknownOutcome = refl
