-- Both sides of every limit that document 01 sets but that of row 11, which stands in Large: the last value that passes, and the first that is refused.
use Rattle.std.specs.Prelude.{List, [], ◌∷◌, ◌++◌, ℕ, set, take, replicate}
use Rattle.definitions.specs.Book.{book_bytes}
use Rattle.definitions.specs.Refusal.{policy_refusal, book_refusal}
use Rattle.definitions.specs.Opened.{step_refusal, tell_refusal}
use Rattle.definitions.specs.Decimal.{decimal}
use Rattle.definitions.specs.Cases.Claim.{Claim, number, bytes}
use Rattle.definitions.specs.Cases.Samples.{policy, policy_a, book_a, two_fields, two_bounds}

-- a book of n states in which every code leads to the start: E events, F fields, four counts, rows of w entries
abbrev book_of_ones : ℕ → ℕ → List ℕ → ℕ → ℕ → List ℕ
book_of_ones E F counts n w = book_bytes (E ∷ F ∷ counts) (replicate n (replicate w 1))

abbrev four_counts : ℕ → ℕ → List ℕ
four_counts a b = a ∷ b ∷ 0 ∷ 0 ∷ []

abbrev pub limit_cases : List Claim
limit_cases =
    -- 2: under 9 bytes
    number (policy_refusal (take 8 policy_a)) 2
    ∷ number (policy_refusal (take 9 policy_a)) 6
    -- 3 and 4: each byte of the mark and the version
    ∷ number (policy_refusal (set policy_a 0 0x51)) 3
    ∷ number (policy_refusal (set policy_a 1 0x50)) 3
    ∷ number (policy_refusal (set policy_a 3 1)) 4
    ∷ number (policy_refusal (set policy_a 4 3)) 4
    -- 5: E 0 to 8, F 1 to 4, P 0 to 4, R 0 to 32; what passes is refused for its length
    ∷ number (policy_refusal (set policy_a 5 8)) 6
    ∷ number (policy_refusal (set policy_a 5 9)) 5
    ∷ number (policy_refusal (set policy_a 6 0)) 5
    ∷ number (policy_refusal (set policy_a 6 4)) 6
    ∷ number (policy_refusal (set policy_a 7 4)) 6
    ∷ number (policy_refusal (set policy_a 7 5)) 5
    ∷ number (policy_refusal (set policy_a 8 0)) 6
    ∷ number (policy_refusal (set policy_a 8 32)) 6
    ∷ number (policy_refusal (set policy_a 8 33)) 5
    -- 6: one byte less
    ∷ number (policy_refusal (take 31 policy_a)) 6
    -- 7: counts 1 to 16, Q at most 64
    ∷ number (policy_refusal (two_fields 16 4)) 0
    ∷ number (policy_refusal (two_fields 17 1)) 7
    ∷ number (policy_refusal (two_fields 1 0)) 7
    ∷ number (policy_refusal (two_fields 13 5)) 7
    -- 8: at least one bit, and every bit below the count
    ∷ number (policy_refusal (set policy_a 11 0)) 8
    ∷ number (policy_refusal (set policy_a 11 3)) 0
    ∷ number (policy_refusal (policy 0 0 1 (16 ∷ 0xFF ∷ 0xFF ∷ 1 ∷ 0 ∷ []))) 0
    ∷ number (policy_refusal (policy 0 0 1 (15 ∷ 0x80 ∷ 0 ∷ 1 ∷ 0 ∷ []))) 8
    -- 9: a decision to 1, tests to 63, changes to 2; a level is free
    ∷ number (policy_refusal (set policy_a 12 2)) 9
    ∷ number (policy_refusal (set policy_a 13 255)) 0
    ∷ number (policy_refusal (set policy_a 14 63)) 0
    ∷ number (policy_refusal (set policy_a 14 64)) 9
    ∷ number (policy_refusal (set policy_a 15 63)) 0
    ∷ number (policy_refusal (set policy_a 15 64)) 9
    ∷ number (policy_refusal (set policy_a 16 2)) 0
    ∷ number (policy_refusal (set policy_a 31 3)) 9
    -- the last change of an event, where there are more variables than rules
    ∷ number (policy_refusal (policy 1 2 1 (1 ∷ 0 ∷ 1 ∷ 1 ∷ 0 ∷ 0 ∷ 0 ∷ 0 ∷ 0 ∷ 0 ∷ 0 ∷ 0 ∷ 3 ∷ []))) 9
    -- 10: 64 valuations pass, 65 do not
    ∷ number (policy_refusal (two_bounds 15 3)) 0
    ∷ number (policy_refusal (two_bounds 12 4)) 10
    -- 12: under 12 bytes, each byte of the mark and the version
    ∷ number (book_refusal (take 11 book_a)) 12
    ∷ number (book_refusal (take 12 book_a)) 13
    ∷ number (book_refusal (set book_a 0 0x50)) 12
    ∷ number (book_refusal (set book_a 1 0x4E)) 12
    ∷ number (book_refusal (set book_a 3 1)) 12
    ∷ number (book_refusal (set book_a 4 0)) 12
    -- 13: the widest book; E, F, counts, Q and n past their ranges; an absent count; one byte more
    ∷ number (book_refusal (book_of_ones 8 4 (16 ∷ 2 ∷ 2 ∷ 1 ∷ []) 1 136)) 0
    ∷ number (book_refusal (book_of_ones 9 1 (four_counts 1 0) 1 11)) 13
    ∷ number (book_refusal (book_of_ones 0 0 (four_counts 0 0) 1 2)) 13
    ∷ number (book_refusal (book_of_ones 0 5 (1 ∷ 1 ∷ 1 ∷ 1 ∷ []) 1 2)) 13
    ∷ number (book_refusal (book_of_ones 0 1 (four_counts 17 0) 1 34)) 13
    ∷ number (book_refusal (book_of_ones 1 1 (four_counts 0 0) 1 1)) 13
    ∷ number (book_refusal (book_of_ones 0 1 (four_counts 1 1) 1 2)) 13
    ∷ number (book_refusal (book_of_ones 0 2 (four_counts 13 5) 1 130)) 13
    ∷ number (book_refusal (book_of_ones 0 1 (four_counts 1 0) 0 2)) 13
    ∷ number (book_refusal (book_of_ones 0 1 (four_counts 1 0) 127 2)) 0
    ∷ number (book_refusal (book_of_ones 0 1 (four_counts 1 0) 128 2)) 13
    ∷ number (book_refusal (book_a ++ (0 ∷ []))) 13
    -- 16: the last state, request and code; more states than codes
    ∷ number (step_refusal (book_of_ones 0 1 (four_counts 1 0) 127 2) 127 1) 0
    ∷ number (step_refusal book_a 3 4) 0
    ∷ number (step_refusal book_a 4 4) 16
    ∷ number (tell_refusal book_a 3 1) 0
    ∷ number (tell_refusal book_a 4 1) 16
    ∷ number (tell_refusal book_a 3 2) 16
    -- decimal numbers of one, two and three digits
    ∷ bytes (decimal 0) (48 ∷ [])
    ∷ bytes (decimal 9) (57 ∷ [])
    ∷ bytes (decimal 10) (49 ∷ 48 ∷ [])
    ∷ bytes (decimal 99) (57 ∷ 57 ∷ [])
    ∷ bytes (decimal 100) (49 ∷ 48 ∷ 48 ∷ [])
    ∷ bytes (decimal 127) (49 ∷ 50 ∷ 55 ∷ [])
    ∷ bytes (decimal 198) (49 ∷ 57 ∷ 56 ∷ [])
    ∷ bytes (decimal 999) (57 ∷ 57 ∷ 57 ∷ [])
    ∷ []
