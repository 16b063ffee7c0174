-- The columns of a line, as the code takes them: a length by its state's depth, a letter by two entries of a row.
use Rattle.std.specs.Prelude.{List, ℕ, zero, suc, ◌+◌, ◌*◌}
use Rattle.automaton.specs.Machine.{is_state}
use Rattle.definitions.specs.Bytes.{byte}
use Rattle.definitions.specs.Page.{three_columns, dashes, letter, line_with}
use Rattle.definitions.specs.Telling.{to_telling}

abbrev pub depth_columns : ℕ → List ℕ
depth_columns zero = dashes
depth_columns (suc k) = three_columns k

-- the letter of a request by its two entries, and that of request r where a row's entries of requests begin
abbrev pub letter_by : ℕ → ℕ → ℕ
letter_by accept reject = letter (to_telling (is_state accept) (is_state reject))

abbrev pub letter_in : List ℕ → ℕ → ℕ
letter_in row r = letter_by (byte row (2 * r)) (byte row (2 * r + 1))

-- the line of state s by its depth
abbrev pub line_of : List ℕ → ℕ → ℕ → List ℕ
line_of b s depth = line_with b s (depth_columns depth)
