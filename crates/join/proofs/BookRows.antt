-- Rows with the numbers of states, and the bytes of a book: a header of 12 bytes and the rows after it.
use mathlib.Core.Path.{◌≡◌, sym, ap, ◌∙◌}
use mathlib.Core.List.{List, [], ◌∷◌, ◌++◌, map, map-append, append_assoc}
use Prim.Native.Nat.{ℕ, suc, ◌+◌, ◌-◌, ◌*◌, ◌<◌, ◌≤◌}
use native.Mathlib.Omega.{arith}
use native.Mathlib.Numerals.{add-one}
use lib.ListN.{length, get_or, take, drop, set, length-map, length-drop, length-append}
use lib.Seq.{length-take-le, take-suc, drop-drop}
use borrow.Rule.Slice.PartMut.{put_mid}
use Rattle.automaton.specs.Join.{minimal}
use Rattle.automaton.proofs.WellFormed.{get_or-map-within, Wide}
use Rattle.definitions.specs.Answer.{written}
use Rattle.definitions.specs.Bytes.{byte}
use Rattle.definitions.specs.Book.{concat, book_bytes}
use Rattle.definitions.specs.Rows.{row_in, rows_in, looked_up, laid, TableIn}
use Rattle.join.specs.Numbers.{numbered_row, numbered_rows, book_header, StatesBelow}
use Rattle.join.proofs.Numbers.{JoinedRows}
use Rattle.definitions.proofs.Written.{written_next}
use Rattle.definitions.proofs.BookBytes.{length-of-bytes}
use Rattle.definitions.proofs.RowsWritten.{laid-after}
use Rattle.definitions.proofs.TableBytes.{state-row}

-- ---- one row
module _ (table row : List ℕ) where
  pub looked_length : (c : ℕ) → c ≤ length row → length (looked_up table c row) ≡ c
  looked_length c l = length-map (take c row) (byte table) ∙ length-take-le c row l

  looked_more : (c : ℕ) → c < length row → looked_up table (c + 1) row ≡ looked_up table c row ++ (byte table (byte row c) ∷ [])
  looked_more c l = rw (add-one, take-suc row c 0 l) (map-append (byte table) (take c row) (byte row c ∷ []))

  pub row-turn : (buffer out : List ℕ) (c x : ℕ) → c < length row → c < length buffer → out ≡ written (looked_up table c row) buffer
      → x ≡ byte table (byte row c) → set out c x ≡ written (looked_up table (c + 1) row) buffer
  row-turn buffer out c x l b eo ex =
      rw (eo, ex, looked_more c l) (written_next (looked_up table c row) buffer c (byte table (byte row c)) (looked_length c (omega arith)) b)

-- ---- all rows
module _ (raw : List ℕ) (n w : ℕ) (numbers order : List ℕ) (ok : TableIn raw n w) (low : StatesBelow order (suc n)) where
  pub numbered-count : length (numbered_rows raw w numbers order) ≡ length order
  numbered-count = length-map order (numbered_row raw w numbers)

  numbered_at : (i : ℕ) → i < length order → get_or (numbered_rows raw w numbers order) i [] ≡ numbered_row raw w numbers (byte order i)
  numbered_at i l = get_or-map-within (numbered_row raw w numbers) order i 0 [] l

  pub numbered_part : (i x : ℕ) (entries part buffer : List ℕ) → i < length order → x ≡ byte order i → entries ≡ row_in raw w (x - 1)
      → part ≡ written (map (byte numbers) entries) buffer → part ≡ written (get_or (numbered_rows raw w numbers order) i []) buffer
  numbered_part i x entries part buffer l e row is =
      is ∙ ap (λ (xs : List ℕ). written (map (byte numbers) xs) buffer) row ∙ ap (λ (s : ℕ). written (numbered_row raw w numbers s) buffer) e
      ∙ ap (λ (row : List ℕ). written row buffer) (sym (numbered_at i l))

  pub order_row : (i : ℕ) → i < length order → (byte order i - 1) * w + w ≤ length raw
  order_row i l = let s = low i l in state-row ok (byte order i) s.0 (omega (arith, s.1))

  pub numbered-wide : Wide w (numbered_rows raw w numbers order)
  numbered-wide i l =
      let b : i < length order = omega (arith, numbered-count) in
      let fits : w ≤ length (drop ((byte order i - 1) * w) raw) = rw length-drop (omega (arith, order_row i b)) in
      ap length (numbered_at i b) ∙ looked_length numbers (drop ((byte order i - 1) * w) raw) w fits

-- ---- header and rows
-- mark and version
abbrev mark : List ℕ
mark = 0x42 ∷ 0x4F ∷ 0x4B ∷ 0 ∷ 1 ∷ []

module _ (frame : List ℕ) (six : length frame ≡ 6) where
  -- the mark is copied, and the frame after it
  pub header-done : (book front part : List ℕ) (n : ℕ) → 12 ≤ length book → front ≡ mark → part ≡ frame
      → set (put_mid 5 6 (front ++ drop 5 book) part) 11 n ≡ written (book_header frame n) book
  header-done book front part n l eb ep =
      let long : length (mark ++ frame) ≡ 11 = omega (arith, six) in
      let both : put_mid 5 6 (mark ++ drop 5 book) frame ≡ written (mark ++ frame) book =
      ap (λ (l : List ℕ). mark ++ (frame ++ l)) (drop-drop 6 5 book ∙ ap (λ (k : ℕ). drop k book) (sym long)) in
      rw (eb, ep) (ap (λ (l : List ℕ). set l 11 n) both ∙ written_next (mark ++ frame) book 11 n long (omega arith))

  pub header-length : (n : ℕ) → length (book_header frame n) ≡ 12
  header-length n = omega (arith, length-append frame (n ∷ []))

  -- a header, and then the rows
  module _ {raw : List ℕ} {n w : ℕ} {numbers order : List ℕ} {k : ℕ} (j : JoinedRows raw n w numbers order k) where
    abbrev rows : List (List ℕ)
    rows = numbered_rows raw w numbers order

    count : length rows ≡ k
    count = numbered-count raw n w numbers order j.table j.states ∙ j.size

    book-is : book_header frame k ++ concat rows ≡ book_bytes frame rows
    book-is =
        ap (λ (n : ℕ). book_header frame n ++ concat rows) (sym count)
        ∙ ap (λ (l : List ℕ). 0x42 ∷ 0x4F ∷ 0x4B ∷ 0 ∷ 1 ∷ l) (append_assoc frame (length rows ∷ []) (concat rows))

    pub book-length : 12 + k * w ≡ length (book_bytes frame (minimal w (rows_in raw n w)))
    book-length =
        ap (λ (n : ℕ). 12 + n * w) (sym count) ∙ sym (length-of-bytes frame rows six w (numbered-wide raw n w numbers order j.table j.states))
        ∙ ap (λ (rows : List (List ℕ)). length (book_bytes frame rows)) j.rows

    pub book-done : (book begun : List ℕ) {all : List ℕ} → begun ≡ written (book_header frame k) book → all ≡ laid 12 rows begun
        → all ≡ written (book_bytes frame (minimal w (rows_in raw n w))) book
    book-done book begun eb ea =
        ea ∙ ap (laid 12 rows) eb ∙ laid-after (book_header frame k) rows book 12 (header-length k)
        ∙ ap (λ (bytes : List ℕ). written bytes book) (book-is ∙ ap (book_bytes frame) j.rows)
