-- The text that `play` writes: a line after the opening of a book, and one after each step of a list.
use Rattle.std.specs.Prelude.{cond, List, [], ◌∷◌, ◌++◌, ℕ, eqb, take, drop}
use Rattle.definitions.specs.Bytes.{two_bytes}
use Rattle.definitions.specs.Opened.{open_refusal, step_refusal, step_state}
use Rattle.walk.specs.Walk.{open_state}
use Rattle.play.specs.StateLines.{answer_line}

-- the lines of a list of steps from a state
abbrev pub step_lines : List ℕ → ℕ → List ℕ → List ℕ
step_lines b s [] = []
step_lines b s (c ∷ cs) = answer_line b (step_refusal b s c) (step_state b s c) ++ step_lines b (step_state b s c) cs

-- the line of the opening, and those of the steps; none where the opening is refused
unfoldable pub play_lines : List ℕ → List ℕ → List ℕ
play_lines b cs =
    let tried = step_lines b (open_state b) cs in
    answer_line b (open_refusal b) (open_state b) ++ cond (eqb (open_refusal b) 0) tried []

-- ---- the input: the length of the book in two bytes, the high byte first, the book, and one byte for each step; of more than 255 steps the first 255 are played
abbrev pub book_in : List ℕ → List ℕ
book_in input = take (two_bytes input 0) (drop 2 input)

abbrev pub codes_in : List ℕ → List ℕ
codes_in input = take 255 (drop (two_bytes input 0) (drop 2 input))

unfoldable pub play_text : List ℕ → List ℕ
unfolding play_lines
play_text input = play_lines (book_in input) (codes_in input)
