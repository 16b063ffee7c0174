-- Lists that are filled from the front, and rows that are written one after another into borrowed parts of a buffer: for every header, width and row.
use mathlib.Core.Path.{◌≡◌, refl, sym, ap, ◌∙◌}
use mathlib.Core.List.{List, [], ◌∷◌, ◌++◌, append_assoc, append-nil}
use Prim.Native.Nat.{ℕ, zero, suc, ◌+◌, ◌-◌, ◌*◌, ◌<◌, ◌≤◌}
use native.Mathlib.Nat.{zero-add, add-zero, zero-mul, suc-mul, add_comm, le_refl}
use native.Mathlib.Numerals.{add-one}
use native.Mathlib.Omega.{arith}
use lib.ListN.{length, get_or, take, drop, set, length-append, length-drop, take-append-drop, drop_of_length-le}
use lib.Seq.{take_all, get_or-take, take-suc, take-suc-set, length-take-le, take_at, drop_at, drop-drop, ext_get_or}
use borrow.Rule.Slice.PartMut.{put_mid}
use Rattle.automaton.proofs.Below.{length-list-below, get_or-list-below}
use Rattle.automaton.proofs.WellFormed.{Wide}
use Rattle.definitions.specs.Answer.{written}
use Rattle.definitions.specs.Book.{concat}
use Rattle.definitions.proofs.Written.{take-written, drop-written}
use Rattle.definitions.proofs.BookBytes.{wide_tail, length-concat}
use Rattle.definitions.specs.Rows.{row_in, rows_in, laid}

-- ---- filled from the front, towards the list `whole`
module _ (whole : List ℕ) where
  pub fill_turn : (list : List ℕ) (i x : ℕ) → take i list ≡ take i whole → i < length list → i < length whole → x ≡ get_or whole i 0
      → take (i + 1) (set list i x) ≡ take (i + 1) whole
  fill_turn list i x same l b e = rw (add-one, take-suc-set list i x l, take-suc whole i 0 b, same, e)

  pub fill_done : (list : List ℕ) (i : ℕ) → take i list ≡ take i whole → length list ≤ i → length list ≡ length whole → list ≡ whole
  fill_done list i same l long = sym (take_all i list l) ∙ same ∙ take_all i whole (omega arith)

-- nothing lies behind the part that `&s[a..]` hands on
drop_past : (a : ℕ) (s : List ℕ) → drop (length s - a) (drop a s) ≡ []
drop_past a s = drop_of_length-le (drop a s) {i = length s - a} (rw length-drop (le_refl (length s - a)))

-- ---- rows
concat_append : (A B : List (List ℕ)) → concat (A ++ B) ≡ concat A ++ concat B
concat_append [] B = refl
concat_append (row ∷ A) B = ap (λ (l : List ℕ). row ++ l) (concat_append A B) ∙ sym (append_assoc row (concat A) (concat B))

pub row_of-concat : (w : ℕ) (rows : List (List ℕ)) (rest : List ℕ) → Wide w rows → (k : ℕ) → k < length rows → row_in (concat rows ++ rest) w k ≡ get_or rows k []
row_of-concat w [] rest wide k l = absurd (omega arith)
row_of-concat w (row ∷ rows) rest wide zero l =
    let first : length row ≡ w = wide 0 (omega arith) in
    rw (append_assoc, zero-mul) (take_at row (concat rows ++ rest) w first)
row_of-concat w (row ∷ rows) rest wide (suc k) l =
    let first : length row ≡ w = wide 0 (omega arith) in
    let past : drop (suc k * w) ((row ++ concat rows) ++ rest) ≡ drop (k * w) (concat rows ++ rest) =
    ap (λ (n : ℕ). drop n ((row ++ concat rows) ++ rest)) (suc-mul k w ∙ add_comm (k * w) w)
    ∙ sym (drop-drop (k * w) w ((row ++ concat rows) ++ rest))
    ∙ ap (λ (x : List ℕ). drop (k * w) x) (rw append_assoc (drop_at row (concat rows ++ rest) w first)) in
    ap (λ (x : List ℕ). take w x) past ∙ row_of-concat w rows rest (wide_tail w row rows wide) k (omega arith)

-- a table is read back from its bytes
pub rows_of-concat : (w : ℕ) (rows : List (List ℕ)) (rest : List ℕ) → Wide w rows → rows_in (concat rows ++ rest) (length rows) w ≡ rows
rows_of-concat w rows rest wide =
    let long = length-list-below (row_in (concat rows ++ rest) w) (length rows) in
    ext_get_or [] (rows_in (concat rows ++ rest) (length rows) w) rows long
    (λ k l.
    let inside : k < length rows = omega arith in
    get_or-list-below (row_in (concat rows ++ rest) w) (length rows) k [] inside ∙ row_of-concat w rows rest wide k inside)

-- ---- rows after the first h bytes of a buffer
pub laid_none : (h : ℕ) (buffer : List ℕ) → laid h [] buffer ≡ buffer
laid_none h buffer = rw add-zero (take-append-drop h buffer)

pub laid-front : (rows : List (List ℕ)) (buffer : List ℕ) → laid 0 rows buffer ≡ written (concat rows) buffer
laid-front rows buffer = rw zero-add

-- after a header
pub laid-after : (header : List ℕ) (rows : List (List ℕ)) (buffer : List ℕ) (h : ℕ) → length header ≡ h
    → laid h rows (written header buffer) ≡ written (header ++ concat rows) buffer
laid-after header rows buffer h e =
    let rest = drop-written header buffer (h + length (concat rows)) (omega arith) in
    let size : length (header ++ concat rows) ≡ h + length (concat rows) = rw (length-append, e) in
    rw (take-written header buffer h e, rest, size, append_assoc)

module _ (h : ℕ) (rows : List (List ℕ)) (buffer : List ℕ) (fits : h + length (concat rows) ≤ length buffer) where
  laid_head : length (take h buffer ++ concat rows) ≡ h + length (concat rows)
  laid_head = rw (length-append, length-take-le h buffer (omega arith))

  laid-split : laid h rows buffer ≡ (take h buffer ++ concat rows) ++ drop (h + length (concat rows)) buffer
  laid-split = sym (append_assoc (take h buffer) (concat rows) (drop (h + length (concat rows)) buffer))

  length-laid : length (laid h rows buffer) ≡ length buffer
  length-laid = rw (laid-split, length-append, laid_head, length-drop) (omega arith)

  laid-rest : drop (h + length (concat rows)) (laid h rows buffer) ≡ drop (h + length (concat rows)) buffer
  laid-rest = rw laid-split (drop_at (take h buffer ++ concat rows) (drop (h + length (concat rows)) buffer) (h + length (concat rows)) laid_head)

  -- the part after them was borrowed, and came back with a row in front
  laid_more : (row x part : List ℕ) (a : ℕ) → x ≡ laid h rows buffer → a ≡ h + length (concat rows) → part ≡ written row (drop a x)
      → put_mid a (length x - a) x part ≡ laid h (rows ++ (row ∷ [])) buffer
  laid_more row x part a ex ea ep =
      let front : take a x ≡ take h buffer ++ concat rows =
      rw (ex, ea, laid-split) (take_at (take h buffer ++ concat rows) (drop (h + length (concat rows)) buffer) (h + length (concat rows)) laid_head) in
      let rest : drop a x ≡ drop a buffer = rw (ex, ea) laid-rest in
      let all : concat (rows ++ (row ∷ [])) ≡ concat rows ++ row = concat_append rows (row ∷ []) ∙ ap (λ (l : List ℕ). concat rows ++ l) (append-nil row) in
      let end : h + length (concat rows ++ row) ≡ a + length row = rw length-append (omega arith) in
      rw (drop_past a x, append-nil, front, ep, rest, drop-drop (length row) a buffer, all, end) (simp append_assoc)

-- row after row: the first i of the rows
module _ (h w : ℕ) (rows : List (List ℕ)) (buffer : List ℕ) (wide : Wide w rows) (i : ℕ) where
  rows-size : i ≤ length rows → length (concat (take i rows)) ≡ i * w
  rows-size l =
      let long : length (take i rows) ≡ i = length-take-le i rows l in
      length-concat w (take i rows)
      (λ k b. let inside : k < i = omega arith in ap length (get_or-take i rows k [] inside) ∙ wide k (omega arith))
      ∙ ap (λ (n : ℕ). n * w) long

  pub laid-length : i ≤ length rows → h + i * w ≤ length buffer → length (laid h (take i rows) buffer) ≡ length buffer
  laid-length l fits = length-laid h (take i rows) buffer (omega (arith, rows-size l))

  pub laid-turn : (x part : List ℕ) (a : ℕ) → i < length rows → h + i * w ≤ length buffer → x ≡ laid h (take i rows) buffer → a ≡ h + i * w
      → part ≡ written (get_or rows i []) (drop a x) → put_mid a (length x - a) x part ≡ laid h (take (i + 1) rows) buffer
  laid-turn x part a l fits ex ea ep =
      let size = rows-size (omega arith) in
      rw (add-one, take-suc rows i [] l) (laid_more h (take i rows) buffer (omega arith) (get_or rows i []) x part a ex (omega arith) ep)
