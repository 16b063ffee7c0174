-- Ways to decisions, and what the call gives and leaves in its buffer. What request 3 and document 01 do not say was computed by the reference.
use Rattle.std.specs.Prelude.{List, [], ◌∷◌, length, set, take, replicate}
use Rattle.std.proofs.Math.Option.{none, some}
use Rattle.definitions.specs.Answer.{refused, given}
use Rattle.definitions.specs.Build.{book_of}
use Rattle.definitions.specs.Way.{way, way_answer, way_buffer}
use Rattle.definitions.specs.Cases.Claim.{Claim, number, bytes, history, compares}
use Rattle.definitions.specs.Cases.Samples.{policy_e, policy_g, book_a, foreign, misnumbered, chain, lent}
use Rattle.definitions.specs.Cases.EachByte.{book_of_mixed}

abbrev pub way_cases : List Claim
way_cases =
    -- E: request 0 both; A: every request is answered; G: request 0 unanswered
    history (way (book_of (policy_e 0)) 0 3) (some (3 ∷ 3 ∷ []))
    ∷ history (way book_a 0 0) none
    ∷ history (way book_a 1 0) none
    ∷ history (way (book_of policy_g) 0 0) (some (0 ∷ []))
    -- the empty history, and every other outcome of A
    ∷ history (way book_a 0 1) (some [])
    ∷ history (way book_a 0 2) none
    ∷ history (way book_a 0 3) none
    ∷ history (way book_a 1 1) (some [])
    ∷ history (way book_a 1 2) (some (3 ∷ 3 ∷ []))
    ∷ history (way book_a 1 3) none
    -- both is neither accept nor reject
    ∷ history (way (book_of (policy_e 0)) 0 2) none
    -- the smaller code of two, and the outcomes of a state that no history reaches
    ∷ history (way foreign 1 0) (some (0 ∷ []))
    ∷ history (way foreign 0 3) (some (4 ∷ []))
    ∷ history (way foreign 2 1) (some (0 ∷ []))
    ∷ history (way foreign 0 2) none
    ∷ history (way foreign 1 1) none
    -- states 2 and 3 reject, and 3 is the one with the earlier history
    ∷ history (way (set (set misnumbered 16 0) 17 2) 0 2) (some (0 ∷ []))
    -- events and several fields
    ∷ history (way book_of_mixed 0 0) (some (3 ∷ []))
    ∷ history (way book_of_mixed 1 3) (some (1 ∷ 5 ∷ []))
    ∷ history (way book_of_mixed 0 2) (some (1 ∷ 5 ∷ 6 ∷ []))
    -- 126 codes
    ∷ history (way (chain 126) 0 2) (some (replicate 126 0))
    -- the call: its answers, and the order of its refusals
    ∷ compares (way_answer book_a 1 2 (lent 128)) (given (some (3 ∷ 3 ∷ [])))
    ∷ compares (way_answer book_a 1 3 (lent 129)) (given none)
    ∷ compares (way_answer book_a 1 1 (lent 128)) (given (some []))
    ∷ compares (way_answer book_a 1 2 (lent 127)) (refused 1)
    ∷ compares (way_answer [] 2 4 (lent 127)) (refused 1)
    ∷ compares (way_answer (take 11 book_a) 2 4 (lent 128)) (refused 12)
    ∷ compares (way_answer (take 26 book_a) 2 4 (lent 128)) (refused 13)
    ∷ compares (way_answer (set book_a 26 4) 2 4 (lent 128)) (refused 14)
    ∷ compares (way_answer book_a 1 4 (lent 128)) (refused 18)
    ∷ compares (way_answer book_a 2 4 (lent 128)) (refused 18)
    ∷ compares (way_answer book_a 2 3 (lent 128)) (refused 16)
    -- 2 to the 63, and the greatest of 64 bits
    ∷ compares (way_answer book_a 1 9223372036854775808 (lent 128)) (refused 18)
    ∷ compares (way_answer book_a 1 18446744073709551615 (lent 128)) (refused 18)
    ∷ compares (way_answer book_a 9223372036854775808 3 (lent 128)) (refused 16)
    ∷ compares (way_answer book_a 18446744073709551615 3 (lent 128)) (refused 16)
    -- its buffer
    ∷ bytes (way_buffer book_a 1 2 (lent 128)) (3 ∷ 3 ∷ lent 126)
    ∷ bytes (way_buffer book_a 1 1 (lent 128)) (lent 128)
    ∷ bytes (way_buffer book_a 1 3 (lent 129)) (lent 129)
    ∷ bytes (way_buffer book_a 1 2 (lent 127)) (lent 127)
    ∷ bytes (way_buffer book_a 1 4 (lent 128)) (lent 128)
    ∷ bytes (way_buffer (set book_a 26 4) 1 2 (lent 128)) (lent 128)
    ∷ number (length (way_buffer (chain 126) 0 2 (lent 130))) 130
    ∷ []
