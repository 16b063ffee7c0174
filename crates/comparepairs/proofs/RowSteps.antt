-- A row of a book as a slice: it has an entry for each code, and the machine's steps.
use mathlib.Core.Path.{◌≡◌, refl, sym, ◌∙◌}
use mathlib.Core.List.{List}
use Prim.Native.Nat.{ℕ, ◌+◌, ◌-◌, ◌*◌, ◌≤◌, ◌<◌}
use native.Mathlib.Omega.{arith}
use lib.ListN.{length, get_or, drop, length-drop}
use lib.Seq.{get_or-take, length-take-le}
use Rattle.automaton.specs.Machine.{step}
use Rattle.definitions.specs.Book.{width, states, book_machine}
use Rattle.definitions.specs.Checked.{BookPassed}
use Rattle.definitions.proofs.BookSteps.{step-is-entry, step-inside}
use Rattle.book.proofs.Places.{row_inside}
use Rattle.book.specs.Rows.{row_of}

module _ (b : List ℕ) (ok : BookPassed b) (s : ℕ) (some : 1 ≤ s) (most : s ≤ states b) where
  pub row-length : length (row_of b s) ≡ width b
  row-length = length-take-le (width b) (drop (12 + (s - 1) * width b) b)
      (rw length-drop (omega (arith, row_inside b ok.layout (width b) refl (s - 1) (omega arith))))

  pub row_step : (c : ℕ) → c < width b → step (book_machine b) s c ≡ get_or (row_of b s) c 0
  row_step c l =
      step-is-entry b s c some l
      ∙ sym (get_or-take (width b) (drop (12 + (s - 1) * width b) b) c 0 l)

  pub row-most : (c : ℕ) → c < width b → get_or (row_of b s) c 0 ≤ states b
  row-most c l = omega (arith, step-inside b ok s c, row_step c l)
