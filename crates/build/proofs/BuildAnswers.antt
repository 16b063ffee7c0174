-- The rows that judge a call of `build`, and what is answered and written.
use mathlib.Core.Path.{◌≡◌, refl, sym, ap, ◌∙◌}
use mathlib.Core.Bool.{Bool}
use mathlib.Core.List.{List}
use Prim.Native.Nat.{ℕ, zero, suc, ◌<◌, ◌≤◌}
use lib.ListN.{length}
use borrow.Author.Tests.{le-leb, lt-leb, eq-eqb, ne_eqb}
use Rattle.automaton.specs.Table.{table}
use Rattle.automaton.specs.Join.{minimal}
use Rattle.definitions.specs.Answer.{judge, refused, given, written}
use Rattle.definitions.specs.Policy.{width, frame}
use Rattle.definitions.specs.Situation.{policy_machine}
use Rattle.definitions.specs.Book.{book_bytes}
use Rattle.definitions.specs.Rows.{rows_in}
use Rattle.definitions.specs.Refusal.{file_refusal, situations, row11, policy_refusal}
use Rattle.definitions.specs.Build.{book_rows, book_of, build_refusal, build_answer, build_buffer}

module _ (p buffer : List ℕ) where
  row_11_over : 127 < length (situations p) → row11 p ≡ 11
  unfolding row11
  row_11_over l = ap (λ (passes : Bool). judge 11 passes 0) (lt-leb (length (situations p)) 127 l)

  row_11_passed : length (situations p) ≤ 127 → row11 p ≡ 0
  unfolding row11
  row_11_passed l = ap (λ (passes : Bool). judge 11 passes 0) (le-leb (length (situations p)) 127 l)

  pub refused_by_1 : length buffer < 17284 → build_refusal p buffer ≡ 1
  unfolding build_refusal
  refused_by_1 l = rw (lt-leb 17284 (length buffer) l)

  module _ (room : 17284 ≤ length buffer) where
    pub refused-by-file : (file_refusal p ≡ 0 → ⊥) → build_refusal p buffer ≡ file_refusal p
    unfolding build_refusal policy_refusal
    refused-by-file n = rw (le-leb 17284 (length buffer) room, ne_eqb (file_refusal p) 0 n)

    passed-by-file : file_refusal p ≡ 0 → build_refusal p buffer ≡ row11 p
    unfolding build_refusal policy_refusal
    passed-by-file e = rw (le-leb 17284 (length buffer) room, eq-eqb (file_refusal p) 0 e)

    pub refused-by-11 : file_refusal p ≡ 0 → 127 < length (situations p) → build_refusal p buffer ≡ 11
    refused-by-11 e l = passed-by-file e ∙ row_11_over l

    pub refused-by-none : file_refusal p ≡ 0 → length (situations p) ≤ 127 → build_refusal p buffer ≡ 0
    refused-by-none e l = passed-by-file e ∙ row_11_passed l

  -- a refusal gives its number and leaves the buffer
  pub build_refused : (k : ℕ) → (k ≡ 0 → ⊥) → build_refusal p buffer ≡ k → (refused k ≡ build_answer p buffer) × (buffer ≡ build_buffer p buffer)
  unfolding build_answer build_buffer
  build_refused zero n e = absurd (n refl)
  build_refused (suc k) n e = (rw e, rw (e, ne_eqb (suc k) 0 n))

  -- and else the book is written
  book-is : book_of p ≡ book_bytes (frame p) (minimal (width p) (table (policy_machine p) (situations p)))
  unfolding book_of book_rows
  book-is = refl

  pub build_given : {r w : ℕ} {after : List ℕ} (raw : List ℕ) (n : ℕ) → w ≡ width p → build_refusal p buffer ≡ 0
      → rows_in raw n (width p) ≡ table (policy_machine p) (situations p)
      → r ≡ length (book_bytes (frame p) (minimal w (rows_in raw n w))) → after ≡ written (book_bytes (frame p) (minimal w (rows_in raw n w))) buffer
      → (given r ≡ build_answer p buffer) × (after ≡ build_buffer p buffer)
  unfolding build_answer build_buffer
  build_given {r} {w} raw n ew e rows el eb =
      let book : book_bytes (frame p) (minimal w (rows_in raw n w)) ≡ book_of p =
      ap (λ (w : ℕ). book_bytes (frame p) (minimal w (rows_in raw n w))) ew
      ∙ ap (λ (rows : List (List ℕ)). book_bytes (frame p) (minimal (width p) rows)) rows
      ∙ sym book-is in
      (rw e (ap given (el ∙ ap length book)), rw e (eb ∙ ap (λ (bytes : List ℕ). written bytes buffer) book))
