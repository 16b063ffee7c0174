-- Where the entries of a book stand.
use mathlib.Core.Path.{◌≡◌}
use mathlib.Core.List.{List}
use Prim.Native.Nat.{ℕ, zero, suc, ◌+◌, ◌-◌, ◌*◌, ◌/◌, ◌%◌, ◌≤◌, ◌<◌}
use native.Mathlib.Nat.{not-suc-le-zero, mul-zero, mod-lt, div-add-mod', div-lt_iff_lt-mul}
use native.Mathlib.Omega.{arith}
use lib.ListN.{length}
use lib.Seq.{get_or-drop}
use Rattle.automaton.proofs.Loops.{row_within}
use Rattle.definitions.specs.Bytes.{byte}
use Rattle.definitions.specs.Book.{states, width, entry}
use Rattle.definitions.specs.Checked.{BookLayout}

module _ (b : List ℕ) (laid : BookLayout b) (w : ℕ) (same : w ≡ width b) where
  -- row i, counted from 0, stands within the book
  pub row_inside : (i : ℕ) → i < states b → 12 + i * w + w ≤ length b
  row_inside i l =
      let exact : length b ≡ 12 + states b * w = rw same laid.exact in
      omega (arith, row_within i (states b) w l)

  -- and so does entry c of the row of state s
  pub inside : (s c : ℕ) → 1 ≤ s → s ≤ states b → c < w → 12 + (s - 1) * w + c < length b
  inside s c some few low = omega (arith, row_inside (s - 1) (omega arith))

-- entry c of row i, counted from 0
pub entry_at : (b : List ℕ) (i c : ℕ) → entry b (suc i) c ≡ byte b (12 + i * width b + c)
entry_at b i c = let e : suc i - 1 ≡ i = omega arith in rw e (get_or-drop (12 + i * width b) b c 0)

-- entry j of n rows of w entries, counted through all rows, has a row and a column
pub record Column (n w j : ℕ) : Type 0 where
  pub row : ℕ
  pub column : ℕ
  pub in_row : row < n
  pub in_width : column < w
  pub is : row * w + column ≡ j

pub column_of : (n w j : ℕ) → j < n * w → Column n w j
column_of n zero j l = absurd (not-suc-le-zero (rw mul-zero at l))
column_of n (suc v) j l =
    let some : 0 < suc v = omega arith in
    record { row = j / suc v; column = j % suc v; in_row = (div-lt_iff_lt-mul some).1 l; in_width = mod-lt j some; is = div-add-mod' j (suc v) }
