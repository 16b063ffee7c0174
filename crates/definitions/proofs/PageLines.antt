-- The lines of a page: each has 73 bytes, and each part of it stands in its columns.
use mathlib.Core.Path.{◌≡◌, refl, ap, ◌∙◌}
use mathlib.Core.Bool.{Bool, true, false, cond}
use mathlib.Core.List.{List, [], ◌∷◌, ◌++◌}
use mathlib.Core.Option.{Option, none, some}
use Prim.Native.Nat.{ℕ, suc, ◌+◌, ◌-◌, ◌*◌, ◌/◌, ◌<◌}
use native.Mathlib.Omega.{arith}
use lib.Dec.{eqb, ltb}
use lib.ListN.{length, get_or, take, drop, replicate, length-append, get_or-append}
use lib.Seq.{take_at, drop_at, drop-drop, get_or-drop, get_or_at}
use Rattle.automaton.specs.Below.{list_below}
use Rattle.automaton.specs.Explore.{Reached, first_that}
use Rattle.automaton.proofs.Below.{length-list-below, get_or-list-below}
use Rattle.automaton.proofs.WellFormed.{Wide}
use Rattle.definitions.specs.Book.{states}
use Rattle.definitions.specs.Decimal.{digit}
use Rattle.definitions.specs.Characters.{blank, newline}
use Rattle.definitions.specs.Verdict.{states_reached}
use Rattle.definitions.specs.Page.{three_columns, length_columns, request_column, page_line, line_after, page_lines, page}
use Rattle.definitions.proofs.BookBytes.{length-concat}

-- ---- three columns
module _ (n : ℕ) where
  abbrev digits : Bool → Bool → List ℕ
  digits x y = cond x (digit n ∷ []) (cond y (digit (n / 10) ∷ digit n ∷ []) (digit (n / 100) ∷ digit (n / 10) ∷ digit n ∷ []))

  pub columns_length : length (three_columns n) ≡ 3
  columns_length = go (ltb n 10) (ltb n 100)
    where
      go : (x y : Bool) → length (replicate (3 - length (digits x y)) blank ++ digits x y) ≡ 3
      go true y = refl
      go false true = refl
      go false false = refl

  -- the last is a digit
  pub columns_last : get_or (three_columns n) 2 0 ≡ digit n
  columns_last = go (ltb n 10) (ltb n 100)
    where
      go : (x y : Bool) → get_or (replicate (3 - length (digits x y)) blank ++ digits x y) 2 0 ≡ digit n
      go true y = refl
      go false true = refl
      go false false = refl

pub length_columns-length : (o : Option Reached) → length (length_columns o) ≡ 3
length_columns-length none = refl
length_columns-length (some t) = columns_length (length t.history)

-- ---- a line
module _ (b : List ℕ) (found : List Reached) (s : ℕ) where
  abbrev shown : List ℕ
  shown = length_columns (first_that (eqb s) found)

  abbrev letters : List ℕ
  letters = list_below 64 (request_column b s)

  -- what follows the first blank, and the second
  abbrev second : List ℕ
  second = shown ++ (blank ∷ (letters ++ (newline ∷ [])))

  pub line-length : length (page_line b found s) ≡ 73
  line-length =
      omega (
        arith,
        length-append (three_columns s) (blank ∷ second),
        columns_length s,
        length-append shown (blank ∷ (letters ++ (newline ∷ []))),
        length_columns-length (first_that (eqb s) found),
        length-append letters (newline ∷ []),
        length-list-below (request_column b s) 64,
      )

  pub line-number : take 3 (page_line b found s) ≡ three_columns s
  line-number = take_at (three_columns s) (blank ∷ second) 3 (columns_length s)

  past_number : drop 3 (page_line b found s) ≡ blank ∷ second
  past_number = drop_at (three_columns s) (blank ∷ second) 3 (columns_length s)

  from-length : drop 4 (page_line b found s) ≡ second
  from-length = rw (← drop-drop 1 3 (page_line b found s), past_number)

  past_length : drop 7 (page_line b found s) ≡ blank ∷ (letters ++ (newline ∷ []))
  past_length =
      rw (← drop-drop 3 4 (page_line b found s), from-length)
      (drop_at shown (blank ∷ (letters ++ (newline ∷ []))) 3 (length_columns-length (first_that (eqb s) found)))

  from-letters : drop 8 (page_line b found s) ≡ letters ++ (newline ∷ [])
  from-letters = rw (← drop-drop 1 7 (page_line b found s), past_length)

  pub line-shown : take 3 (drop 4 (page_line b found s)) ≡ shown
  line-shown =
      ap (take 3) from-length ∙ take_at shown (blank ∷ (letters ++ (newline ∷ []))) 3 (length_columns-length (first_that (eqb s) found))

  pub line-blanks : (get_or (page_line b found s) 3 0 ≡ blank) × (get_or (page_line b found s) 7 0 ≡ blank)
  line-blanks = (at_of 3 past_number, at_of 7 past_length)
    where
      at_of : {rest : List ℕ} (k : ℕ) → drop k (page_line b found s) ≡ blank ∷ rest → get_or (page_line b found s) k 0 ≡ blank
      at_of k e =
          let here : k + 0 ≡ k = omega arith in
          rw (← here, ← get_or-drop k (page_line b found s) 0 0, e)

  pub line-letter : (r : ℕ) → r < 64 → get_or (page_line b found s) (8 + r) 0 ≡ request_column b s r
  line-letter r l =
      rw (← get_or-drop 8 (page_line b found s) r 0, from-letters)
      (get_or-append letters (newline ∷ []) 0 r (rw (length-list-below (request_column b s) 64) l)
      ∙ get_or-list-below (request_column b s) 64 r 0 l)

  pub line-end : get_or (page_line b found s) 72 0 ≡ newline
  line-end =
      rw (← get_or-drop 8 (page_line b found s) 64 0, from-letters) (get_or_at letters newline [] 0 64 (length-list-below (request_column b s) 64))

-- ---- all lines
module _ (b : List ℕ) where
  pub lines-count : length (page_lines b) ≡ states b
  unfolding page_lines
  lines-count = length-list-below (line_after b (states_reached b)) (states b)

  pub lines_at : (i : ℕ) → i < states b → get_or (page_lines b) i [] ≡ line_after b (states_reached b) i
  unfolding page_lines
  lines_at i l = get_or-list-below (line_after b (states_reached b)) (states b) i [] l

  pub lines-wide : Wide 73 (page_lines b)
  lines-wide i l = ap length (lines_at i (omega (arith, lines-count))) ∙ line-length b (states_reached b) (suc i)

  pub page_length_law : length (page b) ≡ states b * 73
  unfolding page
  page_length_law = length-concat 73 (page_lines b) lines-wide ∙ ap (λ (n : ℕ). n * 73) lines-count
