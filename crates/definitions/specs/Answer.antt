-- What every entry point has in common: rows judged in order, an answer that is a refusal's number or a value, and the borrowed buffers afterwards.
use Rattle.std.specs.Prelude.{Bool, cond, List, [], ◌∷◌, ◌++◌, ℕ, zero, suc, eqb, length, drop}
use Rattle.std.proofs.Math.Option.{Option, none, some}
use Rattle.automaton.specs.History.{History}

-- "The lowest row that fits wins": a row's number where its test fails, and else what the rows after it say; 0 where no row fits
abbrev pub judge : ℕ → Bool → ℕ → ℕ
judge number passes later = cond passes later number

-- a row of "Where input is turned down": its number, and the test that the bytes pass where the row does not fit
pub data Check : Type 0 where
  row : ℕ → (List ℕ → Bool) → Check

-- rows judged in order: the number of the first whose test fails, 0 where every test passes. A test is computed only where those before it pass
abbrev pub refusal_by : List Check → List ℕ → ℕ
refusal_by [] bytes = 0
refusal_by (row number passes ∷ later) bytes = let rest = refusal_by later bytes in judge number (passes bytes) rest

-- several rows judged already, and then those after them
abbrev pub then_judge : ℕ → ℕ → ℕ
then_judge first later = judge first (eqb first 0) later

-- "Nothing but the number is given" on a refusal
pub data Answer (A : Type 0) : Type 0 where
  refused : ℕ → Answer A
  given : A → Answer A

abbrev pub answer : {A : Type 0} → ℕ → A → Answer A
answer zero value = given value
answer (suc number) value = refused (suc number)

-- a buffer with something written to its front: "bytes after it stay"
abbrev pub written : List ℕ → List ℕ → List ℕ
written front buffer = front ++ drop (length front) buffer

-- a lent buffer after a call; where the call was refused, "every lent buffer is unchanged"
abbrev pub after_call : ℕ → List ℕ → List ℕ → List ℕ
after_call refusal front buffer = let after = written front buffer in cond (eqb refusal 0) after buffer

-- what goes to the front of a history's buffer: of a "none" nothing, so that "the whole buffer of a none" stays
abbrev pub history_bytes : Option History → List ℕ
history_bytes none = []
history_bytes (some h) = h
