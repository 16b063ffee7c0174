-- A book's bytes read back: a frame of six numbers and rows of one width give bytes with that frame and these rows, and so a machine in which histories
-- lead to the same rows. Equal bytes are those of equal frames and equal rows.
use mathlib.Core.Path.{◌≡◌, refl, ap, ap₂, sym, ◌∙◌, subst}
use mathlib.Core.Logic.{◌↔◌}
use mathlib.Core.List.{List, [], ◌∷◌, ◌++◌}
use Prim.Native.Nat.{ℕ, zero, suc, ◌+◌, ◌-◌, ◌*◌, ◌≤◌, ◌<◌}
use native.Mathlib.Nat.{not-suc-le-zero, le_of_suc-le-suc, suc-mul}
use native.Mathlib.Omega.{arith}
use native.Mathlib.Decide.{dec_lt}
use lib.ListN.{length, get_or, take, drop, length-append, get_or-append}
use lib.Seq.{get_or-append-add, get_or_at, get_or-drop, take_at, drop_at, drop-append-add}
use borrow.Author.Tests.{lt-ltb}
use Rattle.automaton.specs.History.{History}
use Rattle.automaton.specs.Machine.{step, after}
use Rattle.automaton.specs.Table.{entry_in, tabled}
use Rattle.automaton.proofs.Congruence.{fold_below-same}
use Rattle.automaton.proofs.Machine.{step_past}
use Rattle.automaton.proofs.WellFormed.{Wide, IsTable, step-inside}
use Rattle.definitions.specs.Bytes.{byte, times}
use Rattle.definitions.specs.Book as B
use Rattle.definitions.specs.Book.{concat, book_bytes, book_machine}
use Rattle.definitions.specs.Policy as P
use Rattle.definitions.specs.Refusal.{file_refusal}
use Rattle.definitions.proofs.Steps.{step-next}
use Rattle.definitions.proofs.Accepted.{file_accepted}

-- ---- rows one after another
module _ (w : ℕ) where
  pub wide_tail : (row : List ℕ) (rows : List (List ℕ)) → Wide w (row ∷ rows) → Wide w rows
  wide_tail row rows wide i l = wide (suc i) (omega arith)

  pub length-concat : (rows : List (List ℕ)) → Wide w rows → length (concat rows) ≡ length rows * w
  length-concat [] wide = omega arith
  length-concat (row ∷ rows) wide =
      length-append row (concat rows) ∙ omega (arith, wide 0 (omega arith), length-concat rows (wide_tail row rows wide), suc-mul (length rows) w)

  concat_at : (rows : List (List ℕ)) → Wide w rows → (i c : ℕ) → i < length rows → c < w → get_or (concat rows) (i * w + c) 0 ≡ get_or (get_or rows i []) c 0
  concat_at [] wide i c li lc = absurd (not-suc-le-zero li)
  concat_at (row ∷ rows) wide zero c li lc =
      let place : 0 * w + c ≡ c = omega arith in
      rw place (get_or-append row (concat rows) 0 c (omega (arith, wide 0 (omega arith))))
  concat_at (row ∷ rows) wide (suc i) c li lc =
      let place : suc i * w + c ≡ length row + (i * w + c) = omega (arith, suc-mul i w, wide 0 (omega arith)) in
      rw place (get_or-append-add row (concat rows) (i * w + c) 0 ∙ concat_at rows (wide_tail row rows wide) i c (le_of_suc-le-suc li) lc)

  concat-same : (rows others : List (List ℕ)) → Wide w rows → Wide w others → length rows ≡ length others → concat rows ≡ concat others → rows ≡ others
  concat-same [] [] wr wo n e = refl
  concat-same [] (other ∷ others) wr wo n e = absurd (omega arith)
  concat-same (row ∷ rows) [] wr wo n e = absurd (omega arith)
  concat-same (row ∷ rows) (other ∷ others) wr wo n e =
      let lr = wr 0 (omega arith) in
      let lo = wo 0 (omega arith) in
      let head : row ≡ other = sym (take_at row (concat rows) w lr) ∙ ap (take w) e ∙ take_at other (concat others) w lo in
      let rest : concat rows ≡ concat others = sym (drop_at row (concat rows) w lr) ∙ ap (drop w) e ∙ drop_at other (concat others) w lo in
      let tail : rows ≡ others = concat-same rows others (wide_tail row rows wr) (wide_tail other others wo) (omega arith) rest in
      cc

-- ---- the bytes read back
module _ (frame : List ℕ) (rows : List (List ℕ)) (six : length frame ≡ 6) where
  pub states_of-bytes : B.states (book_bytes frame rows) ≡ length rows
  states_of-bytes = get_or_at frame (length rows) (concat rows) 0 6 six

  pub frame_of_bytes : B.frame (book_bytes frame rows) ≡ frame
  frame_of_bytes = take_at frame (length rows ∷ concat rows) 6 six

  -- the bytes of the rows
  rows_of-bytes : drop 12 (book_bytes frame rows) ≡ concat rows
  rows_of-bytes =
      let seven : length frame + 1 ≡ 7 = omega arith in
      subst (λ (k : ℕ). drop k (frame ++ (length rows ∷ concat rows)) ≡ concat rows) seven (drop-append-add frame (length rows ∷ concat rows) 1)

  byte_of_rows : (i : ℕ) → byte (book_bytes frame rows) (12 + i) ≡ get_or (concat rows) i 0
  byte_of_rows i = sym (get_or-drop 12 (book_bytes frame rows) i 0) ∙ ap (λ (bytes : List ℕ). get_or bytes i 0) rows_of-bytes

  module _ (w : ℕ) where
    pub length-of-bytes : Wide w rows → length (book_bytes frame rows) ≡ 12 + length rows * w
    length-of-bytes wide = omega (arith, length-append frame (length rows ∷ concat rows), length-concat w rows wide)

    module _ (same : B.width (book_bytes frame rows) ≡ w) where
      pub entry-of-bytes : Wide w rows → (s c : ℕ) → 1 ≤ s → s ≤ length rows → c < w → B.entry (book_bytes frame rows) s c ≡ entry_in rows s c
      entry-of-bytes wide zero c some most l = absurd (omega arith)
      entry-of-bytes wide (suc i) c some most l =
          let before : suc i - 1 ≡ i = omega arith in
          let row : (suc i - 1) * B.width (book_bytes frame rows) ≡ i * w = ap₂ (λ (x y : ℕ). x * y) before same in
          let place : 12 + (suc i - 1) * B.width (book_bytes frame rows) + c ≡ 12 + (i * w + c) = omega arith in
          get_or-drop (12 + (suc i - 1) * B.width (book_bytes frame rows)) (book_bytes frame rows) c 0 ∙ ap (byte (book_bytes frame rows)) place ∙ byte_of_rows (i * w + c) ∙ concat_at w rows wide i c most l

      module _ (ok : IsTable w rows) where
        -- the bytes' machine takes the steps of the table
        pub step-of-bytes : (s c : ℕ) → s ≤ length rows → step (book_machine (book_bytes frame rows)) s c ≡ step (tabled w rows) s c
        step-of-bytes zero c most = refl
        step-of-bytes (suc i) c most = go (dec_lt c w)
          where
            go : Dec (c < w) → step (book_machine (book_bytes frame rows)) (suc i) c ≡ step (tabled w rows) (suc i) c
            go (yes l) =
                step-next (book_machine (book_bytes frame rows)) (suc i) c refl (omega arith)
                ∙ entry-of-bytes ok.wide (suc i) c (omega arith) most l
                ∙ sym (step-next (tabled w rows) (suc i) c refl l)
            go (no l) =
                step_past (book_machine (book_bytes frame rows)) (suc i) c (omega arith) ∙ sym (step_past (tabled w rows) (suc i) c (omega arith))

        pub after-of-bytes : (s : ℕ) → s ≤ length rows → (h : History) → after (book_machine (book_bytes frame rows)) s h ≡ after (tabled w rows) s h
        after-of-bytes s most [] = refl
        after-of-bytes s most (c ∷ h) =
            ap (λ (t : ℕ). after (book_machine (book_bytes frame rows)) t h) (step-of-bytes s c most)
            ∙ after-of-bytes (step (tabled w rows) s c) (step-inside w rows ok s c) h

-- ---- equal bytes are those of equal frames and equal rows
pub bytes_same : (w : ℕ) (frame other : List ℕ) (rows others : List (List ℕ)) → length frame ≡ 6 → length other ≡ 6 → Wide w rows → Wide w others
    → (book_bytes frame rows ≡ book_bytes other others) ↔ ((frame ≡ other) × (rows ≡ others))
bytes_same w frame other rows others lf lo wr wo = (into, λ h. ap₂ book_bytes h.0 h.1)
  where
    into : book_bytes frame rows ≡ book_bytes other others → (frame ≡ other) × (rows ≡ others)
    into e = (sym (frame_of_bytes frame rows lf) ∙ ap B.frame e ∙ frame_of_bytes other others lo, concat-same w rows others wr wo n bytes)
      where
        n : length rows ≡ length others
        n = sym (states_of-bytes frame rows lf) ∙ ap B.states e ∙ states_of-bytes other others lo

        bytes : concat rows ≡ concat others
        bytes = sym (rows_of-bytes frame rows lf) ∙ ap (drop 12) e ∙ rows_of-bytes other others lo

-- ---- the frame of a policy
module _ (p : List ℕ) (rows : List (List ℕ)) where
  pub policy-count : (f : ℕ) → f < 4 → B.count (book_bytes (P.frame p) rows) f ≡ P.present_count p f
  policy-count zero l = refl
  policy-count (suc zero) l = refl
  policy-count (suc (suc zero)) l = refl
  policy-count (suc (suc (suc zero))) l = refl
  policy-count (suc (suc (suc (suc f)))) l = absurd (omega arith)

  module _ (passes : file_refusal p ≡ 0) where
    pub policy-requests : B.requests (book_bytes (P.frame p) rows) ≡ P.requests p
    policy-requests = fold_below-same (times (B.count (book_bytes (P.frame p) rows))) (times (P.count p)) 1 (P.fields p) turn
      where
        turn : (f q : ℕ) → f < P.fields p → q * B.count (book_bytes (P.frame p) rows) f ≡ q * P.count p f
        turn f q l =
            let few : f < 4 = omega (arith, (file_accepted p passes).fields_most) in
            let present : P.present_count p f ≡ P.count p f = rw (lt-ltb f (P.fields p) l) in
            ap (λ (x : ℕ). q * x) (policy-count f few ∙ present)

    -- a book with the frame of a policy has its width
    pub policy-width : B.width (book_bytes (P.frame p) rows) ≡ P.width p
    policy-width = ap (λ (q : ℕ). P.events p + 2 * q) policy-requests
