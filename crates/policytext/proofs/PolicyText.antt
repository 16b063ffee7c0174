-- The text by what build answers is the one for the policy.
use mathlib.Core.Path.{◌≡◌, refl, ap}
use mathlib.Core.Bool.{cond}
use mathlib.Core.List.{List}
use Prim.Native.Nat.{ℕ, zero, suc, ◌≤◌}
use lib.Dec.{eqb, eqb-suc-zero}
use lib.ListN.{length, take, drop}
use lib.Seq.{take-append_seam}
use borrow.Author.Tests.{le-leb}
use Rattle.definitions.specs.Answer.{Answer, refused, given, answer, after_call}
use Rattle.definitions.specs.Refusal.{policy_refusal}
use Rattle.definitions.specs.Build.{book_of, build_refusal, build_answer, build_buffer}
use Rattle.definitions.specs.Checked.{BookPassed}
use Rattle.definitions.specs.Decimal.{decimal}
use Rattle.definitions.specs.Shelf.{line, refused_word}
use Rattle.definitions.proofs.Accepted.{book-passed}
use Rattle.definitions.proofs.Demands.{demand2}
use Rattle.policytext.specs.PolicyText.{refusal_or}

-- the text for what build answers, with the book at the front of the buffer
abbrev built_text : (List ℕ → List ℕ) → Answer ℕ → List ℕ → List ℕ
built_text text (refused number) buffer = line refused_word (decimal number)
built_text text (given n) buffer = text (take n buffer)

-- the book at the front of the buffer is one that the checks pass
abbrev BuiltPasses : Answer ℕ → List ℕ → Type 0
BuiltPasses (refused number) buffer = Unit
BuiltPasses (given n) buffer = BookPassed (take n buffer)

-- r is the number of a refusal, 0 where there is none
module _ (book buffer : List ℕ) where
  built_text_law : (text : List ℕ → List ℕ) (r : ℕ)
      → built_text text (answer r (length book)) (after_call r book buffer) ≡ cond (eqb r 0) (text book) (line refused_word (decimal r))
  built_text_law text zero = ap text (take-append_seam book (drop (length book) buffer))
  built_text_law text (suc r) = rw (eqb-suc-zero r)

  built_passes : (r : ℕ) → (r ≡ 0 → BookPassed book) → BuiltPasses (answer r (length book)) (after_call r book buffer)
  built_passes zero passes = rw (take-append_seam book (drop (length book) buffer)) (passes refl)
  built_passes (suc r) passes = tt

module _ (p buffer : List ℕ) (room : 17284 ≤ length buffer) where
  refusal_is : build_refusal p buffer ≡ policy_refusal p
  unfolding build_refusal
  refusal_is = rw (le-leb 17284 (length buffer) room)

  policy_text_law : (text : List ℕ → List ℕ) → built_text text (build_answer p buffer) (build_buffer p buffer) ≡ refusal_or text p
  unfolding build_answer build_buffer refusal_or
  policy_text_law text = rw refusal_is (built_text_law (book_of p) buffer text (policy_refusal p))

  policy-passes : BuiltPasses (build_answer p buffer) (build_buffer p buffer)
  unfolding build_answer build_buffer
  policy-passes = rw refusal_is (built_passes (book_of p) buffer (policy_refusal p) (λ e. (book-passed (book_of p)).0 (demand2 p e).passes))

  pub refused-text : {n : ℕ} (text : List ℕ → List ℕ) → refused n ≡ build_answer p buffer → line refused_word (decimal n) ≡ refusal_or text p
  refused-text text e = rw (← e) at (policy_text_law text)

  -- the buffer after a call that gives the book's length
  module _ {n : ℕ} {book : List ℕ} (ea : given n ≡ build_answer p buffer) (eb : book ≡ build_buffer p buffer) where
    pub given-text : (text : List ℕ → List ℕ) → text (take n book) ≡ refusal_or text p
    given-text text = rw eb (rw (← ea) at (policy_text_law text))

    pub given-passes : BookPassed (take n book)
    given-passes = rw eb (rw (← ea) at policy-passes)
