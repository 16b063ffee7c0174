-- Build: from a policy's bytes to its book in a borrowed buffer.
use Rattle.std.specs.Prelude.{List, ℕ, leb, length}
use Rattle.automaton.specs.Table.{table}
use Rattle.automaton.specs.Join.{minimal}
use Rattle.definitions.specs.Answer.{judge, Answer, answer, after_call}
use Rattle.definitions.specs.Policy.{width, frame}
use Rattle.definitions.specs.Situation.{policy_machine}
use Rattle.definitions.specs.Book.{book_bytes}
use Rattle.definitions.specs.Refusal.{policy_refusal, situations}

-- "Alike situations are one state. States are numbered by their earliest history": the rows of the book of p
unfoldable pub book_rows : List ℕ → List (List ℕ)
unfolding situations minimal
book_rows p = minimal (width p) (table (policy_machine p) (situations p))

-- the book of p: its bytes "depend on the policy only, not on what the buffer held"
unfoldable pub book_of : List ℕ → List ℕ
unfolding book_rows
book_of p = let rows = book_rows p in book_bytes (frame p) rows

-- row 1, "buffer under 17,284", then the rows of the policy
unfoldable pub build_refusal : List ℕ → List ℕ → ℕ
unfolding policy_refusal
build_refusal p buffer = judge 1 (leb 17284 (length buffer)) (policy_refusal p)

-- "Build gives the book's length"
unfoldable pub build_answer : List ℕ → List ℕ → Answer ℕ
unfolding build_refusal book_of
build_answer p buffer = let n = length (book_of p) in answer (build_refusal p buffer) n

-- "Its book is the first bytes of the buffer, as many as the length that build gives"
unfoldable pub build_buffer : List ℕ → List ℕ → List ℕ
unfolding build_refusal book_of
build_buffer p buffer = after_call (build_refusal p buffer) (book_of p) buffer
