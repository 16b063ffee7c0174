-- The example of each row of document 01's "Where input is turned down" and the order in which rows are judged.
use Rattle.std.specs.Prelude.{List, [], ◌∷◌, ◌++◌, set, take}
use Rattle.definitions.specs.Answer.{refused}
use Rattle.definitions.specs.Refusal.{policy_refusal, book_refusal}
use Rattle.definitions.specs.Build.{book_of, build_answer}
use Rattle.definitions.specs.Verdict.{verdict_answer}
use Rattle.definitions.specs.Compare.{compare_answer}
use Rattle.definitions.specs.Opened.{open_answer, tell_answer, step_refusal}
use Rattle.definitions.specs.Cases.Claim.{Claim, number, builds, finds, compares, tells}
use Rattle.definitions.specs.Cases.Samples.{policy_a, policy_h, book_a, two_fields, two_bounds, lent}

abbrev pub refusal_cases : List Claim
refusal_cases =
    -- 1: each buffer, and "Row 1 precedes all"
    builds (build_answer policy_a (lent 17283)) (refused 1)
    ∷ builds (build_answer [] (lent 17283)) (refused 1)
    ∷ finds (verdict_answer book_a (lent 127) (lent 128) (lent 128)) (refused 1)
    ∷ finds (verdict_answer book_a (lent 128) (lent 127) (lent 128)) (refused 1)
    ∷ finds (verdict_answer [] (lent 128) (lent 128) (lent 127)) (refused 1)
    ∷ compares (compare_answer book_a book_a (lent 255)) (refused 1)
    ∷ compares (compare_answer [] [] (lent 255)) (refused 1)
    -- 2 to 10
    ∷ number (policy_refusal []) 2
    ∷ number (policy_refusal (0x50 ∷ 0x4F ∷ 0x58 ∷ 0 ∷ 0 ∷ 0 ∷ 0 ∷ 0 ∷ 0 ∷ [])) 3
    ∷ number (policy_refusal (set policy_a 4 0)) 4
    ∷ number (policy_refusal (set policy_a 6 5)) 5
    ∷ number (policy_refusal (policy_a ++ (0 ∷ []))) 6
    ∷ number (policy_refusal (two_fields 9 8)) 7
    ∷ number (policy_refusal (two_fields 8 8)) 0
    ∷ number (policy_refusal (set policy_a 11 4)) 8
    ∷ number (policy_refusal (set policy_a 16 3)) 9
    ∷ number (policy_refusal (two_bounds 8 8)) 10
    ∷ number (policy_refusal (two_bounds 7 7)) 0
    -- "The lowest row that fits wins"
    ∷ number (policy_refusal (set (set policy_a 16 3) 11 4)) 8
    ∷ number (policy_refusal (set (policy_a ++ (0 ∷ [])) 4 0)) 4
    -- 12 to 14
    ∷ number (book_refusal (set book_a 2 0x58)) 12
    ∷ number (book_refusal (take 26 book_a)) 13
    ∷ number (book_refusal (set book_a 26 4)) 14
    ∷ number (book_refusal (set book_a 12 0)) 14
    ∷ number (book_refusal book_a) 0
    -- 15, and "rows 12 to 14 for its first book, then its second"
    ∷ compares (compare_answer book_a (book_of policy_h) (lent 256)) (refused 15)
    ∷ compares (compare_answer (set book_a 26 4) [] (lent 256)) (refused 14)
    ∷ compares (compare_answer (book_of policy_h) (take 26 book_a) (lent 256)) (refused 13)
    -- 16, after rows 12 to 14
    ∷ number (step_refusal book_a 1 2) 16
    ∷ number (step_refusal book_a 1 5) 16
    ∷ number (step_refusal book_a 4 0) 16
    ∷ number (step_refusal book_a 0 0) 16
    ∷ number (step_refusal book_a 1 3) 0
    ∷ number (step_refusal (take 26 book_a) 0 9) 13
    ∷ tells (tell_answer book_a 1 2) (refused 16)
    ∷ tells (tell_answer book_a 0 0) (refused 16)
    ∷ tells (tell_answer (set book_a 26 4) 1 0) (refused 14)
    ∷ tells (tell_answer (take 26 book_a) 0 9) (refused 13)
    ∷ builds (open_answer (take 26 book_a)) (refused 13)
    ∷ []
