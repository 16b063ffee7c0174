-- Compare: two books of one frame, the same bytes, the same histories.
use Rattle.std.specs.Prelude.{Bool, List, ℕ, leb, length}
use Rattle.std.proofs.Math.Option.{Option}
use Rattle.automaton.specs.Below.{same_list}
use Rattle.automaton.specs.History.{History}
use Rattle.automaton.specs.Pair.{difference}
use Rattle.definitions.specs.Answer.{judge, then_judge, Answer, answer, after_call, history_bytes}
use Rattle.definitions.specs.Book.{book_machine}
use Rattle.definitions.specs.Refusal.{book_refusal, row15}

-- "A plain test besides says whether two lent byte strings, books or not, have equal bytes"
abbrev pub same_bytes : List ℕ → List ℕ → Bool
same_bytes b d = same_list b d

-- "It says same exactly when the same histories are possible in both": none. "Otherwise it writes the earliest history possible in just one".
-- Two books have at most 127 × 127 pairs of states; a pair (s, t) is the number s × 128 + t
unfoldable pub comparison : List ℕ → List ℕ → Option History
unfolding difference
comparison b d = difference 128 16383 (book_machine b) (book_machine d)

-- row 1, "256 (compare)"; "rows 12 to 14 for its first book, then its second"; row 15
unfoldable pub compare_refusal : List ℕ → List ℕ → List ℕ → ℕ
unfolding book_refusal row15
compare_refusal b d buffer = judge 1 (leb 256 (length buffer)) (then_judge (book_refusal b) (then_judge (book_refusal d) (row15 b d)))

unfoldable pub compare_answer : List ℕ → List ℕ → List ℕ → Answer (Option History)
unfolding compare_refusal comparison
compare_answer b d buffer = let found = comparison b d in answer (compare_refusal b d buffer) found

-- "Bytes after the history, or all of them on same, stay"
unfoldable pub compare_buffer : List ℕ → List ℕ → List ℕ → List ℕ
unfolding compare_refusal comparison
compare_buffer b d buffer = after_call (compare_refusal b d buffer) (history_bytes (comparison b d)) buffer
