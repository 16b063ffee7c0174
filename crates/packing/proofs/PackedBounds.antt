-- What the code answers is small: the lengths and requests that it tells are those of document 01's answers.
use mathlib.Core.Path.{◌≡◌, subst⁻¹}
use mathlib.Core.List.{List}
use Prim.Native.Nat.{ℕ, ◌*◌, ◌≤◌}
use native.Mathlib.Omega.{arith}
use lib.Dec.{leb}
use lib.ListN.{length, take}
use Rattle.std.specs.Prelude.{Option, None, Some, Result, Ok, Err}
use Rattle.definitions.specs.Answer.{given}
use Rattle.definitions.specs.Book.{states}
use Rattle.definitions.specs.Refusal.{policy_refusal, Accepted, book_refusal}
use Rattle.definitions.specs.Page.{page_refusal, page_answer}
use Rattle.definitions.specs.Build.{book_of, build_refusal, build_answer}
use Rattle.definitions.specs.Compare.{compare_answer}
use Rattle.definitions.specs.Way.{way_answer}
use Rattle.definitions.proofs.Tests.{judge-zero}
use Rattle.definitions.proofs.Answers.{answer-given}
use Rattle.definitions.proofs.Written.{length_taken}
use Rattle.definitions.proofs.Demands.{page-right}
use Rattle.refusal.specs.declared.Refusal.{Refusal}
use Rattle.build.specs.BuiltAnswer.{built_answer}
use Rattle.page.specs.PageAnswer.{paged_answer}
use Rattle.way.specs.ShownAnswer.{shown_answer}
use Rattle.way.proofs.WayAnswers.{way_small}
use Rattle.compare.specs.ComparedAnswer.{compared_answer}
use Rattle.compare.proofs.ComparedAnswer.{difference_small}
use Rattle.packing.proofs.RefusalBounds.{book_small}
use Rattle.packing.specs.PackedBounds.{LengthWithin, HistoryWithin}

-- ---- build
module _ (p buffer : List ℕ) where
  passed : build_refusal p buffer ≡ 0 → Accepted p
  unfolding build_refusal
  passed e = ((judge-zero 0 (leb 17284 (length buffer)) (policy_refusal p)).0 e).1

  pub book-given : (n : ℕ) → given n ≡ build_answer p buffer → n ≤ 17284
  unfolding build_answer
  book-given n e =
      let is = answer-given (build_refusal p buffer) n (length (book_of p)) e in
      subst⁻¹ (λ (k : ℕ). k ≤ 17284) is.1 (book_small p (passed is.0))

  pub built_within : (r : Result ℕ Refusal) → built_answer r ≡ build_answer p buffer → LengthWithin 17284 r
  built_within (Err refusal) e = tt
  built_within (Ok n) e = book-given n e

-- ---- page
module _ (b buffer : List ℕ) where
  page_small : page_refusal b buffer ≡ 0 → states b * 73 ≤ 9271
  unfolding page_refusal
  page_small e = (page-right b ((judge-zero 0 (leb 9271 (length buffer)) (book_refusal b)).0 e).1).room

  pub page-given : (n : ℕ) → given n ≡ page_answer b buffer → n ≤ 9271
  unfolding page_answer
  page-given n e =
      let is = answer-given (page_refusal b buffer) n (states b * 73) e in
      subst⁻¹ (λ (k : ℕ). k ≤ 9271) is.1 (page_small is.0)

  pub paged_within : (r : Result ℕ Refusal) → paged_answer r ≡ page_answer b buffer → LengthWithin 9271 r
  paged_within (Err refusal) e = tt
  paged_within (Ok n) e = page-given n e

-- how long a book and a page are at most
pub ruleset lengths = (book-given, page-given)

-- ---- way
pub shown-within : (b : List ℕ) (r outcome : ℕ) (buffer : List ℕ) (shown : Result (Option ℕ) Refusal) (after : List ℕ) → length after ≡ length buffer
    → shown_answer shown after ≡ way_answer b r outcome buffer → HistoryWithin 128 shown × HistoryWithin (length after) shown
shown-within b r outcome buffer (Err refusal) after same e = (tt, tt)
shown-within b r outcome buffer (Ok None) after same e = (tt, tt)
shown-within b r outcome buffer (Ok (Some n)) after same e =
    let small = way_small b r outcome buffer (take n after) e in
    let is = length_taken n after (omega arith) in
    (omega arith, omega arith)

-- ---- compare
pub compared-within : (b d buffer : List ℕ) (r : Result (Option ℕ) Refusal) (after : List ℕ) → length after ≡ length buffer
    → compared_answer r after ≡ compare_answer b d buffer → HistoryWithin 256 r × HistoryWithin (length after) r
compared-within b d buffer (Err refusal) after same e = (tt, tt)
compared-within b d buffer (Ok None) after same e = (tt, tt)
compared-within b d buffer (Ok (Some n)) after same e =
    let small = difference_small b d buffer (take n after) e in
    let is = length_taken n after (omega arith) in
    (omega arith, omega arith)
