-- A page of the book for the file room (request 1 of document 02): "one line a state".
use Rattle.std.specs.Prelude.{cond, List, [], ◌∷◌, ◌++◌, ℕ, suc, ◌-◌, ◌*◌, eqb, leb, ltb, length, replicate}
use Rattle.std.proofs.Math.Option.{Option, none, some}
use Rattle.automaton.specs.Below.{list_below}
use Rattle.automaton.specs.Explore.{Reached, first_that}
use Rattle.definitions.specs.Answer.{judge, Answer, answer, after_call}
use Rattle.definitions.specs.Book.{concat, requests, states}
use Rattle.definitions.specs.Refusal.{book_refusal}
use Rattle.definitions.specs.Telling as T
use Rattle.definitions.specs.Verdict.{states_reached}
use Rattle.definitions.specs.Decimal.{decimal}
use Rattle.definitions.specs.Characters.{blank, newline}

-- ---- columns
-- "state number in 3 columns to the right", "length .. in 3 columns likewise"
abbrev pub three_columns : ℕ → List ℕ
three_columns n = replicate (3 - length (decimal n)) blank ++ decimal n

-- "States that no history reaches (in a foreign book) show --- as length"
abbrev pub dashes : List ℕ
dashes = 45 ∷ 45 ∷ 45 ∷ []

-- "length of its earliest history", of a state as it is found first
abbrev pub length_columns : Option Reached → List ℕ
length_columns none = dashes
length_columns (some t) = three_columns (length t.history)

-- "one letter a request: . none, A, R, B both"
abbrev pub letter : T.Telling → ℕ
letter T.none = 46
letter T.accept = 65
letter T.reject = 82
letter T.both = 66

-- column r of 64: "blanks beyond Q"
abbrev pub request_column : List ℕ → ℕ → ℕ → ℕ
request_column b s r = let told = letter (T.telling b s r) in cond (ltb r (requests b)) told blank

-- ---- lines
-- the line of state s with these columns for its length: "Each line is 72 columns and the byte 10"
abbrev pub line_with : List ℕ → ℕ → List ℕ → List ℕ
line_with b s length_text = three_columns s ++ (blank ∷ (length_text ++ (blank ∷ (list_below 64 (request_column b s) ++ (newline ∷ [])))))

abbrev pub page_line : List ℕ → List Reached → ℕ → List ℕ
page_line b found s = line_with b s (length_columns (first_that (eqb s) found))

-- the line after i others
abbrev pub line_after : List ℕ → List Reached → ℕ → List ℕ
line_after b found i = page_line b found (suc i)

unfoldable pub page_lines : List ℕ → List (List ℕ)
unfolding T.telling
page_lines b = let found = states_reached b in list_below (states b) (line_after b found)

unfoldable pub page : List ℕ → List ℕ
unfolding page_lines
page b = let lines = page_lines b in concat lines

-- ---- the call
-- "a page buffer under 9,271 bytes gives 1"; "a book that takes rows 12 to 14"
unfoldable pub page_refusal : List ℕ → List ℕ → ℕ
unfolding book_refusal
page_refusal b buffer = judge 1 (leb 9271 (length buffer)) (book_refusal b)

-- "n × 73 bytes are written, and that number is given"
unfoldable pub page_answer : List ℕ → List ℕ → Answer ℕ
unfolding page_refusal
page_answer b buffer = let size = states b * 73 in answer (page_refusal b buffer) size

-- "nothing after the page changes"
unfoldable pub page_buffer : List ℕ → List ℕ → List ℕ
unfolding page_refusal page
page_buffer b buffer = after_call (page_refusal b buffer) (page b) buffer
