-- The line after a call, put part by part.
use mathlib.Core.Path.{◌≡◌, sym, ◌∙◌}
use mathlib.Core.List.{List}
use Prim.Native.Nat.{ℕ, ◌+◌, ◌≤◌, ◌<◌}
use native.Mathlib.Numerals.{add-one}
use native.Mathlib.Omega.{arith}
use lib.ListN.{length}
use borrow.Author.Tests.{ne_eqb}
use Rattle.std.specs.Prelude.{Result, Ok, Err, IfOk}
use Rattle.definitions.specs.Answer.{Answer}
use Rattle.definitions.specs.Book.{fields, requests}
use Rattle.definitions.specs.Telling.{Telling}
use Rattle.definitions.specs.Opened.{tell_answer}
use Rattle.definitions.specs.Checked.{BookPassed}
use Rattle.definitions.proofs.Accepted.{book-passed}
use Rattle.text.specs.Put.{Put}
use Rattle.text.proofs.Puts.{then}
use Rattle.refusal.specs.declared.Refusal.{Refusal}
use Rattle.refusal.specs.Refused.{number_of, refusal_in}
use Rattle.refusal.proofs.Refused.{some_number}
use Rattle.walk.proofs.CallCases.{tell-inside}
use Rattle.play.specs.StateLines.{Stands, telling_text, tellings_text, answer_line, result_line}

module _ (b : List ℕ) (s : ℕ) (stands : Stands b s) where
  book : BookPassed b
  book = (book-passed b).0 stands.passes

  -- what `requests` asks, and its bound
  pub asked : (12 ≤ length b) × (fields b ≤ 4)
  asked = (book.long, book.layout.header.fields_most)

  pub few : requests b ≤ 64
  few = book.layout.header.requests_most

  pub tellings_turn : {before out after : List ℕ} {at next end : ℕ} (k : ℕ) (told : Answer Telling) → k < requests b → told ≡ tell_answer b s k → Put before at (tellings_text b s k) out next
      → Put out next (telling_text told) after end → Put before at (tellings_text b s (k + 1)) after end
  tellings_turn k told l e p q = rw (add-one k) (then p (rw (e ∙ sym (tell-inside b s k stands.passes stands.holds l)) at q))

-- a refusal's number is not 0
pub never_0 : (refusal : Refusal) → number_of refusal ≡ 0 → ⊥
never_0 refusal z = omega (arith, some_number refusal)

-- the line by the number that a call answers, and by the state where it answers one
pub line_of : (b : List ℕ) (r : Result ℕ Refusal) (number state : ℕ) → refusal_in r ≡ number → IfOk r (λ there. there ≡ state) → result_line b r ≡ answer_line b number state
line_of b (Ok there) number state e is = rw (← e, is)
line_of b (Err refusal) number state e is = rw (← e, ne_eqb (number_of refusal) 0 (never_0 refusal))
