-- A text for a borrowed buffer, and the room that the buffer must have. Document 01 has no number for a buffer that is too short for every text: the answer is
-- then 0, and nothing is written.
use Rattle.std.specs.Prelude.{cond, List, ℕ, leb, length}
use Rattle.definitions.specs.Answer.{written}

-- the length of the text
abbrev pub length_within : ℕ → List ℕ → List ℕ → ℕ
length_within room text out = cond (leb room (length out)) (length text) 0

-- the buffer with the text at its front; the bytes after it are unchanged
abbrev pub written_within : ℕ → List ℕ → List ℕ → List ℕ
written_within room text out = cond (leb room (length out)) (written text out) out
