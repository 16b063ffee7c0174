-- Pages of books, whole or some lines of them, and what the call gives and leaves in its buffer. The values were computed by the reference.
use Rattle.std.specs.Prelude.{List, [], ◌∷◌, ◌++◌, ℕ, ◌-◌, ◌*◌, length, set, take, drop, replicate}
use Rattle.definitions.specs.Answer.{refused, given}
use Rattle.definitions.specs.Build.{book_of}
use Rattle.definitions.specs.Page.{page, page_answer, page_buffer}
use Rattle.definitions.specs.Cases.Claim.{Claim, number, bytes, builds}
use Rattle.definitions.specs.Cases.Samples.{policy_e, policy_g, book_a, foreign, misnumbered, chain, lent}
use Rattle.definitions.specs.Cases.Several.{wide}

-- a line: the columns up to the second blank, the letters, blanks up to column 72, and the byte 10
abbrev line_with : List ℕ → List ℕ → List ℕ
line_with columns letters = columns ++ letters ++ replicate (64 - length letters) 32 ++ (10 ∷ [])

-- some lines of a page
abbrev lines_of : List ℕ → List ℕ → List ℕ
lines_of [] lines = []
lines_of (s ∷ ss) lines = take 73 (drop ((s - 1) * 73) lines) ++ lines_of ss lines

-- "  1   0 AA", "  2   1 AA", and the third line
abbrev two_and_then : List ℕ → List ℕ
two_and_then third =
    line_with (32 ∷ 32 ∷ 49 ∷ 32 ∷ 32 ∷ 32 ∷ 48 ∷ 32 ∷ []) (65 ∷ 65 ∷ []) ++ line_with (32 ∷ 32 ∷ 50 ∷ 32 ∷ 32 ∷ 32 ∷ 49 ∷ 32 ∷ []) (65 ∷ 65 ∷ []) ++ third

-- "  3   2 AR"
abbrev page_a : List ℕ
page_a = two_and_then (line_with (32 ∷ 32 ∷ 51 ∷ 32 ∷ 32 ∷ 32 ∷ 50 ∷ 32 ∷ []) (65 ∷ 82 ∷ []))

-- "  3   2 BR"
abbrev page_e : List ℕ
page_e = two_and_then (line_with (32 ∷ 32 ∷ 51 ∷ 32 ∷ 32 ∷ 32 ∷ 50 ∷ 32 ∷ []) (66 ∷ 82 ∷ []))

-- "  1   0 AA", "  2   1 .."
abbrev page_g : List ℕ
page_g =
    line_with (32 ∷ 32 ∷ 49 ∷ 32 ∷ 32 ∷ 32 ∷ 48 ∷ 32 ∷ []) (65 ∷ 65 ∷ []) ++ line_with (32 ∷ 32 ∷ 50 ∷ 32 ∷ 32 ∷ 32 ∷ 49 ∷ 32 ∷ []) (46 ∷ 46 ∷ [])

-- "  1   0 ARB", "  2   1 ..A", "  3   1 B..", "  4 --- RAB"
abbrev page_foreign : List ℕ
page_foreign =
    line_with (32 ∷ 32 ∷ 49 ∷ 32 ∷ 32 ∷ 32 ∷ 48 ∷ 32 ∷ []) (65 ∷ 82 ∷ 66 ∷ []) ++ line_with (32 ∷ 32 ∷ 50 ∷ 32 ∷ 32 ∷ 32 ∷ 49 ∷ 32 ∷ []) (46 ∷ 46 ∷ 65 ∷ [])
    ++ line_with (32 ∷ 32 ∷ 51 ∷ 32 ∷ 32 ∷ 32 ∷ 49 ∷ 32 ∷ []) (66 ∷ 46 ∷ 46 ∷ []) ++ line_with (32 ∷ 32 ∷ 52 ∷ 32 ∷ 45 ∷ 45 ∷ 45 ∷ 32 ∷ []) (82 ∷ 65 ∷ 66 ∷ [])

-- "  1   0 A", "  2   2 R", "  3   1 A"
abbrev page_misnumbered : List ℕ
page_misnumbered =
    line_with (32 ∷ 32 ∷ 49 ∷ 32 ∷ 32 ∷ 32 ∷ 48 ∷ 32 ∷ []) (65 ∷ []) ++ line_with (32 ∷ 32 ∷ 50 ∷ 32 ∷ 32 ∷ 32 ∷ 50 ∷ 32 ∷ []) (82 ∷ [])
    ++ line_with (32 ∷ 32 ∷ 51 ∷ 32 ∷ 32 ∷ 32 ∷ 49 ∷ 32 ∷ []) (65 ∷ [])

-- " 10   9 A", " 11  10 A", "100  99 A", "101 100 R"
abbrev lines_of_chain : List ℕ
lines_of_chain =
    line_with (32 ∷ 49 ∷ 48 ∷ 32 ∷ 32 ∷ 32 ∷ 57 ∷ 32 ∷ []) (65 ∷ []) ++ line_with (32 ∷ 49 ∷ 49 ∷ 32 ∷ 32 ∷ 49 ∷ 48 ∷ 32 ∷ []) (65 ∷ [])
    ++ line_with (49 ∷ 48 ∷ 48 ∷ 32 ∷ 32 ∷ 57 ∷ 57 ∷ 32 ∷ []) (65 ∷ []) ++ line_with (49 ∷ 48 ∷ 49 ∷ 32 ∷ 49 ∷ 48 ∷ 48 ∷ 32 ∷ []) (82 ∷ [])

-- "  4   2 ", 48 accepted, 15 unanswered and one rejected; "  6   2 ", 63 accepted and one both
abbrev lines_of_wide : List ℕ
lines_of_wide =
    line_with (32 ∷ 32 ∷ 52 ∷ 32 ∷ 32 ∷ 32 ∷ 50 ∷ 32 ∷ []) (replicate 48 65 ++ replicate 15 46 ++ (82 ∷ []))
    ++ line_with (32 ∷ 32 ∷ 54 ∷ 32 ∷ 32 ∷ 32 ∷ 50 ∷ 32 ∷ []) (replicate 63 65 ++ (66 ∷ []))

abbrev pub page_cases : List Claim
page_cases =
    bytes (page book_a) page_a
    ∷ bytes (page (book_of (policy_e 0))) page_e
    ∷ bytes (page (book_of policy_g)) page_g
    ∷ bytes (page foreign) page_foreign
    ∷ bytes (page misnumbered) page_misnumbered
    -- numbers of two and three digits
    ∷ bytes (lines_of (10 ∷ 11 ∷ 100 ∷ 101 ∷ []) (page (chain 100))) lines_of_chain
    -- 64 requests
    ∷ bytes (lines_of (4 ∷ 6 ∷ []) (page (book_of wide))) lines_of_wide
    -- the call: the number of bytes, and the order of its refusals
    ∷ builds (page_answer book_a (lent 9271)) (given 219)
    ∷ builds (page_answer foreign (lent 9272)) (given 292)
    ∷ builds (page_answer book_a (lent 9270)) (refused 1)
    ∷ builds (page_answer [] (lent 9270)) (refused 1)
    ∷ builds (page_answer (take 11 book_a) (lent 9271)) (refused 12)
    ∷ builds (page_answer (take 26 book_a) (lent 9271)) (refused 13)
    ∷ builds (page_answer (set book_a 26 4) (lent 9271)) (refused 14)
    -- its buffer
    ∷ bytes (take 222 (page_buffer book_a (lent 9271))) (page_a ++ lent 3)
    ∷ number (length (page_buffer book_a (lent 9272))) 9272
    ∷ bytes (page_buffer book_a (lent 9270)) (lent 9270)
    ∷ bytes (page_buffer (set book_a 26 4) (lent 9271)) (lent 9271)
    ∷ []
