-- The columns of a line, put one after another.
use mathlib.Core.Path.{◌≡◌, refl, sym, ap, ◌∙◌}
use mathlib.Core.List.{List, [], ◌∷◌, ◌++◌, append_assoc, append-nil}
use Prim.Native.Nat.{ℕ, zero, suc, ◌+◌, ◌-◌, ◌*◌, ◌≤◌, ◌<◌}
use native.Mathlib.Nat.{add-zero, add-suc}
use native.Mathlib.Numerals.{add-one}
use native.Mathlib.Omega.{arith}
use lib.ListN.{length, take, drop, set, replicate, length-append, length-drop, length-replicate, replicate-append-replicate}
use Rattle.std.proofs.lemmas.List.{length-take, get_or-take}
use borrow.Rule.Slice.PartMut.{put_mid}
use lib.Seq.{sets, get_or-drop, drop_at, set_comm, set-set}
use borrow.Author.Tests.{lt-ltb, le-ltb}
use Rattle.automaton.specs.Below.{list_below}
use Rattle.automaton.specs.Machine.{step}
use Rattle.automaton.proofs.Congruence.{list-below-same}
use Rattle.definitions.specs.Bytes.{byte}
use Rattle.definitions.specs.Codes.{accept_code, reject_code}
use Rattle.definitions.specs.Book.{events, requests, width, entry, book_machine}
use Rattle.definitions.proofs.BookSteps.{step-is-entry}
use Rattle.definitions.specs.Characters.{blank, newline}
use Rattle.definitions.specs.Page.{three_columns, request_column}
use Rattle.definitions.specs.Telling.{telling}
use Rattle.book.specs.Rows.{row_of}
use Rattle.text.specs.Put.{Put}
use Rattle.text.proofs.Puts.{then, byte_put, copied}
use Rattle.page.specs.LineColumns.{depth_columns, letter_in, line_of}

-- ---- one column more
module _ (f : ℕ → ℕ) where
  pub column-turn : (before : List ℕ) (at : ℕ) {out : List ℕ} (r x : ℕ) → x ≡ f r → Put before at (list_below r f) out (at + r)
      → Put before at (list_below (r + 1) f) (set out (at + r) x) (at + (r + 1))
  column-turn before at {out} r x e p =
      let place : at + suc r ≡ (at + r) + 1 = omega arith in
      rw (add-one r, place, e) (then p (byte_put out (at + r) (f r)))

  -- the columns from q on are blank
  pub columns_blank : (q k : ℕ) → ((r : ℕ) → q ≤ r → f r ≡ blank) → list_below q f ++ replicate k blank ≡ list_below (q + k) f
  columns_blank q zero past = append-nil (list_below q f) ∙ ap (λ (n : ℕ). list_below n f) (sym (add-zero q))
  columns_blank q (suc k) past =
      let more : replicate (suc k) blank ≡ replicate k blank ++ (blank ∷ [])
      = ap (λ (n : ℕ). replicate n blank) (sym (add-one k)) ∙ sym (replicate-append-replicate k 1 blank) in
      ap (λ (l : List ℕ). list_below q f ++ l) more
      ∙ sym (append_assoc (list_below q f) (replicate k blank) (blank ∷ []))
      ∙ ap (λ (l : List ℕ). l ++ (blank ∷ [])) (columns_blank q k past)
      ∙ ap (λ (x : ℕ). list_below (q + k) f ++ (x ∷ [])) (sym (past (q + k) (omega arith)))
      ∙ ap (λ (n : ℕ). list_below n f) (sym (add-suc q k))

-- ---- blanks that a part of the line is filled with
pub blanks_put : (before part : List ℕ) (at n : ℕ) → at + n ≤ length before → part ≡ replicate (length (take (at + n - at) (drop at before))) blank
    → Put before at (replicate n blank) (put_mid at (at + n - at) before part) (at + n)
blanks_put before part at n room e =
    let size : length (take (at + n - at) (drop at before)) ≡ n = omega (arith, length-take (at + n - at) (drop at before), length-drop at before) in
    let long = length-replicate n blank in
    rw long at (copied before (replicate n blank) part at (rw size at e) (omega (arith, long)))

-- ---- what is put over a text that is no shorter
set-sets : (ys l : List ℕ) (i j x : ℕ) → i < j → set (sets l j ys) i x ≡ sets (set l i x) j ys
set-sets [] l i j x b = refl
set-sets (y ∷ ys) l i j x b =
    set-sets ys (set l j y) i (suc j) x (omega arith) ∙ ap (λ (m : List ℕ). sets m (suc j) ys) (set_comm l j i y x (λ e. omega arith))

sets_over : (xs ys l : List ℕ) (i : ℕ) → length xs ≤ length ys → sets (sets l i ys) i xs ≡ sets l i (xs ++ drop (length xs) ys)
sets_over [] ys l i b = refl
sets_over (x ∷ xs) [] l i b = absurd (omega arith)
sets_over (x ∷ xs) (y ∷ ys) l i b =
    ap (λ (m : List ℕ). sets m (suc i) xs)
    (set-sets ys (set l i y) i (suc i) x (omega arith) ∙ ap (λ (m : List ℕ). sets m (suc i) ys) (set-set l i y x))
    ∙ sets_over xs ys (set l i x) (suc i) (omega arith)

pub put-over : {before middle after xs : List ℕ} {at end next : ℕ} (n q : ℕ) → Put before at (replicate n blank) middle end → Put middle at xs after next
    → length xs ≡ q → q ≤ n → Put before at (xs ++ replicate (n - q) blank) after end
put-over {before} {middle} {after} {xs} {at} n q under over e l =
    let all : n ≡ q + (n - q) = omega arith in
    let whole : replicate n blank ≡ replicate q blank ++ replicate (n - q) blank =
    ap (λ (k : ℕ). replicate k blank) all ∙ sym (replicate-append-replicate q (n - q) blank) in
    let rest : drop (length xs) (replicate n blank) ≡ replicate (n - q) blank =
    ap (drop (length xs)) whole ∙ drop_at (replicate q blank) (replicate (n - q) blank) (length xs) (length-replicate q blank ∙ sym e) in
    record {
      stored = over.stored ∙ ap (λ (m : List ℕ). sets m at xs) under.stored
          ∙ sets_over xs (replicate n blank) before at (omega (arith, length-replicate n blank)) ∙ ap (λ (r : List ℕ). sets before at (xs ++ r)) rest;
      ends = omega (arith, under.ends, length-replicate n blank, length-append xs (replicate (n - q) blank), length-replicate (n - q) blank);
    }

-- ---- the columns of the requests
module _ (b : List ℕ) (s : ℕ) where
  request-entry : (k : ℕ) → byte (drop (12 + (s - 1) * width b + events b) b) k ≡ entry b s (events b + k)
  request-entry k =
      let same : 12 + (s - 1) * width b + events b + k ≡ 12 + (s - 1) * width b + (events b + k) = omega arith in
      get_or-drop (12 + (s - 1) * width b + events b) b k 0 ∙ ap (byte b) same ∙ sym (get_or-drop (12 + (s - 1) * width b) b (events b + k) 0)

  -- the letters of the entries that are the requests' are those of the state
  pub letter-column : (row : List ℕ) → row ≡ drop (12 + (s - 1) * width b + events b) b → 1 ≤ s → (r : ℕ) → r < requests b → letter_in row r ≡ request_column b s r
  unfolding telling
  letter-column row e some-state r l =
      let next : events b + (2 * r + 1) ≡ reject_code (events b) r = omega arith in
      let accept : byte row (2 * r) ≡ step (book_machine b) s (accept_code (events b) r) =
      rw e (request-entry (2 * r)) ∙ sym (step-is-entry b s (accept_code (events b) r) some-state (omega arith)) in
      let reject : byte row (2 * r + 1) ≡ step (book_machine b) s (reject_code (events b) r) =
      rw e (request-entry (2 * r + 1)) ∙ ap (entry b s) next ∙ sym (step-is-entry b s (reject_code (events b) r) some-state (omega arith)) in
      rw (lt-ltb r (requests b) l, accept, reject)

  -- so are those of the state's row
  row-entry : (k : ℕ) → events b + k < width b → byte (drop (events b) (row_of b s)) k ≡ byte (drop (12 + (s - 1) * width b + events b) b) k
  row-entry k l = get_or-drop (events b) (row_of b s) k 0 ∙ rw get_or-take (sym (request-entry k))

  row-column : 1 ≤ s → (r : ℕ) → r < requests b → letter_in (drop (events b) (row_of b s)) r ≡ request_column b s r
  row-column some-state r l = rw (row-entry (2 * r) (omega arith), row-entry (2 * r + 1) (omega arith)) (letter-column _ refl some-state r l)

  -- letters, and blanks beyond Q
  pub columns_all : (row : List ℕ) → row ≡ drop (events b) (row_of b s) → 1 ≤ s → (q : ℕ) → q ≡ requests b → q ≤ 64
      → list_below q (letter_in row) ++ replicate (64 - q) blank ≡ list_below 64 (request_column b s)
  columns_all row e some-state q count l =
      let whole : q + (64 - q) ≡ 64 = omega arith in
      ap (λ (x : List ℕ). x ++ replicate (64 - q) blank)
      (list-below-same (letter_in row) (request_column b s) q (λ r m. ap (λ (x : List ℕ). letter_in x r) e ∙ row-column some-state r (omega arith)))
      ∙ columns_blank (request_column b s) q (64 - q) (λ r m. rw (le-ltb r (requests b) (omega arith))) ∙ ap (λ (n : ℕ). list_below n (request_column b s)) whole

-- the parts of a line, put one after another
pub line-parts : (b : List ℕ) (s depth : ℕ)
    → (three_columns s ++ (blank ∷ (depth_columns depth ++ (blank ∷ [])))) ++ (list_below 64 (request_column b s) ++ (newline ∷ [])) ≡ line_of b s depth
line-parts b s depth =
    let rest = list_below 64 (request_column b s) ++ (newline ∷ []) in
    append_assoc (three_columns s) (blank ∷ (depth_columns depth ++ (blank ∷ []))) rest
    ∙ ap (λ (x : List ℕ). three_columns s ++ (blank ∷ x)) (append_assoc (depth_columns depth) (blank ∷ []) rest)
