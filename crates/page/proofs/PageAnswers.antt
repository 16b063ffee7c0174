-- The rows of a call judged in order (row 1 for the buffer, then those of the book), and its answer and its buffer.
use mathlib.Core.Path.{◌≡◌, sym, ap, ◌∙◌}
use mathlib.Core.List.{List}
use Prim.Native.Nat.{ℕ, ◌*◌, ◌≤◌, ◌<◌}
use native.Mathlib.Omega.{arith}
use lib.ListN.{length}
use borrow.Author.Tests.{le-leb, lt-leb}
use Rattle.definitions.specs.Answer.{refused, given, written}
use Rattle.definitions.specs.Book.{states}
use Rattle.definitions.specs.Refusal.{book_refusal}
use Rattle.definitions.specs.Page.{page, page_refusal, page_answer, page_buffer}
use Rattle.definitions.proofs.Answers.{given-answer, refused_buffer, given-buffer}
use Rattle.refusal.specs.declared.Refusal.{Refusal}
use Rattle.refusal.specs.Refused.{number_of}
use Rattle.refusal.proofs.Refused.{some_number, answer-err}

module _ (b buffer : List ℕ) where
  pub refused_by_1 : length buffer < 9271 → 1 ≡ page_refusal b buffer
  unfolding page_refusal
  refused_by_1 l = rw (lt-leb 9271 (length buffer) l)

  pub refused_by-book : 9271 ≤ length buffer → book_refusal b ≡ page_refusal b buffer
  unfolding page_refusal
  refused_by-book l = rw (le-leb 9271 (length buffer) l)

  pub page-refused : (refusal : Refusal) → number_of refusal ≡ page_refusal b buffer → (refused (number_of refusal) ≡ page_answer b buffer) × (buffer ≡ page_buffer b buffer)
  unfolding page_answer page_buffer
  page-refused refusal is = (
    answer-err refusal (page_refusal b buffer) (states b * 73) is,
    refused_buffer (page_refusal b buffer) (page b) buffer (λ z. omega (arith, some_number refusal)),
  )

  pub page-given : 0 ≡ page_refusal b buffer → (size : ℕ) (after : List ℕ) → size ≡ states b * 73 → after ≡ written (page b) buffer
      → (given size ≡ page_answer b buffer) × (after ≡ page_buffer b buffer)
  unfolding page_answer page_buffer
  page-given is size after es ea = (
    ap given es ∙ given-answer (page_refusal b buffer) (sym is) (states b * 73),
    ea ∙ sym (given-buffer (page_refusal b buffer) (page b) buffer (sym is)),
  )
