-- Request 2: files of version 2 with their starting values. What the request does not say was computed by the reference.
use Rattle.std.specs.Prelude.{List, [], ◌∷◌, ◌++◌, ℕ, length, set, take, replicate}
use Rattle.std.proofs.Math.Option.{some}
use Rattle.definitions.specs.Book.{concat}
use Rattle.definitions.specs.Valuation.{start_valuation}
use Rattle.definitions.specs.Refusal.{policy_refusal, situations}
use Rattle.definitions.specs.Build.{book_of, book_rows}
use Rattle.definitions.specs.Compare.{comparison}
use Rattle.definitions.specs.Cases.Claim.{Claim, number, bytes, rows, history}
use Rattle.definitions.specs.Cases.Samples.{policy, with_starts, policy_a, policy_s, book_a, two_bounds}
use Rattle.definitions.specs.Cases.EachByte.{mixed, numbers_with}

-- A as a file of version 2
abbrev started_a : ℕ → List ℕ
started_a start = with_starts 1 (start ∷ []) policy_a

-- two variables with bounds of 7 and 3
abbrev started_two : ℕ → ℕ → List ℕ
started_two a b = with_starts 1 (a ∷ b ∷ []) (two_bounds 7 3)

-- no variables
abbrev no_variables : List ℕ
no_variables = policy 0 0 1 (16 ∷ 0xFF ∷ 0xFF ∷ 1 ∷ 0 ∷ [])

-- 4 variables, which begin at 1, at 1, above the bound and at 0
abbrev started_mixed : List ℕ
started_mixed = with_starts 2 (1 ∷ 1 ∷ 63 ∷ 0 ∷ []) mixed

abbrev rows_of_started_mixed : List (List ℕ)
rows_of_started_mixed =
    (2 ∷ 3 ∷ 1 ∷ 1 ∷ 0 ∷ 1 ∷ 4 ∷ [])
    ∷ (2 ∷ 5 ∷ 2 ∷ 2 ∷ 0 ∷ 2 ∷ 6 ∷ [])
    ∷ (5 ∷ 3 ∷ 3 ∷ 0 ∷ 0 ∷ 2 ∷ 0 ∷ [])
    ∷ (6 ∷ 7 ∷ 1 ∷ 0 ∷ 8 ∷ 4 ∷ 4 ∷ [])
    ∷ (5 ∷ 5 ∷ 5 ∷ 3 ∷ 0 ∷ 2 ∷ 0 ∷ [])
    ∷ (6 ∷ 9 ∷ 2 ∷ 0 ∷ 10 ∷ 6 ∷ 6 ∷ [])
    ∷ (9 ∷ 7 ∷ 3 ∷ 0 ∷ 11 ∷ 6 ∷ 0 ∷ [])
    ∷ (10 ∷ 7 ∷ 12 ∷ 0 ∷ 8 ∷ 4 ∷ 0 ∷ [])
    ∷ (9 ∷ 9 ∷ 5 ∷ 0 ∷ 13 ∷ 6 ∷ 0 ∷ [])
    ∷ (10 ∷ 9 ∷ 14 ∷ 0 ∷ 10 ∷ 6 ∷ 0 ∷ [])
    ∷ (13 ∷ 7 ∷ 15 ∷ 0 ∷ 11 ∷ 10 ∷ 0 ∷ [])
    ∷ (14 ∷ 3 ∷ 12 ∷ 1 ∷ 0 ∷ 1 ∷ 0 ∷ [])
    ∷ (13 ∷ 9 ∷ 16 ∷ 0 ∷ 13 ∷ 10 ∷ 0 ∷ [])
    ∷ (14 ∷ 5 ∷ 14 ∷ 2 ∷ 0 ∷ 2 ∷ 0 ∷ [])
    ∷ (16 ∷ 3 ∷ 15 ∷ 0 ∷ 0 ∷ 14 ∷ 0 ∷ [])
    ∷ (16 ∷ 5 ∷ 16 ∷ 15 ∷ 0 ∷ 14 ∷ 0 ∷ [])
    ∷ []

-- the head, the counts and the starting values; each rule's two masks, decision, level and four variables; the events' changes
abbrev started_numbers : List ℕ
started_numbers =
    3 ∷ 3 ∷ 3 ∷ 4 ∷ 4 ∷ 5 ∷ 5 ∷ 5 ∷ 5 ∷ 7 ∷ 7 ∷ 17 ∷ 17 ∷ 17 ∷ 17
    ∷ concat (replicate 5 (8 ∷ 8 ∷ 8 ∷ 8 ∷ 9 ∷ 0 ∷ replicate 12 9)) ++ replicate 12 9

abbrev pub start_cases : List Claim
start_cases =
    -- A as a file of version 2: "Version 1 files read as all zeros, so equality of books holds between files of either version"
    bytes (book_of (started_a 0)) book_a
    ∷ rows (book_rows (started_a 1)) ((2 ∷ 1 ∷ 0 ∷ 3 ∷ 0 ∷ []) ∷ (2 ∷ 2 ∷ 0 ∷ 1 ∷ 0 ∷ []) ∷ (2 ∷ 3 ∷ 0 ∷ 0 ∷ 3 ∷ []) ∷ [])
    ∷ rows (book_rows (started_a 2)) ((2 ∷ 1 ∷ 0 ∷ 0 ∷ 1 ∷ []) ∷ (2 ∷ 2 ∷ 0 ∷ 3 ∷ 0 ∷ []) ∷ (2 ∷ 3 ∷ 0 ∷ 1 ∷ 0 ∷ []) ∷ [])
    ∷ history (comparison (book_of (started_a 1)) book_a) (some (3 ∷ 3 ∷ []))
    ∷ history (comparison (book_of (started_a 2)) book_a) (some (3 ∷ []))
    ∷ history (comparison book_a (book_of (started_a 2))) (some (3 ∷ []))
    -- "A start above the variable's bound counts as the bound": by one, and as far as a start may be
    ∷ bytes (book_of (started_a 3)) (book_of (started_a 2))
    ∷ bytes (book_of (started_a 63)) (book_of (started_a 2))
    -- "one starting value for each variable", in their order; the first variable is the lowest digit, here one of 8
    ∷ number (start_valuation (started_two 5 2)) 21
    ∷ number (start_valuation (started_two 7 3)) 31
    ∷ number (start_valuation (started_two 8 4)) 31
    ∷ number (start_valuation (started_two 0 63)) 24
    ∷ number (start_valuation (started_two 6 0)) 6
    -- a variable that no rule tests has the bound 0
    ∷ number (start_valuation (with_starts 1 (9 ∷ 1 ∷ []) (two_bounds 0 3))) 1
    ∷ number (start_valuation (two_bounds 7 3)) 0
    -- no variables, no starting values
    ∷ bytes (book_of (with_starts 1 [] no_variables)) (book_of no_variables)
    ∷ number (policy_refusal (with_starts 1 [] no_variables)) 0
    ∷ number (policy_refusal (with_starts 1 (0 ∷ []) no_variables)) 6
    -- 4: "neither 1 nor 2", in both bytes
    ∷ number (policy_refusal (set (started_a 0) 4 0)) 4
    ∷ number (policy_refusal (set (started_a 0) 4 3)) 4
    ∷ number (policy_refusal (set (started_a 0) 3 1)) 4
    -- 6: "The length grows by P" in version 2, and in no other
    ∷ number (policy_refusal (set policy_a 4 2)) 6
    ∷ number (policy_refusal (set (started_a 0) 4 1)) 6
    ∷ number (policy_refusal (started_a 0 ++ (0 ∷ []))) 6
    ∷ number (policy_refusal (take 32 (started_a 0))) 6
    -- 17: "a start above 63", of each variable
    ∷ number (policy_refusal (started_a 63)) 0
    ∷ number (policy_refusal (started_a 64)) 17
    ∷ number (policy_refusal (started_two 63 63)) 0
    ∷ number (policy_refusal (started_two 64 0)) 17
    ∷ number (policy_refusal (started_two 0 64)) 17
    -- "judged after 7 and before 8": a bad count, a bad mask, a bad change and too many valuations beside it; a wrong length before all
    ∷ number (policy_refusal (set (started_a 64) 9 17)) 7
    ∷ number (policy_refusal (set (started_a 64) 12 4)) 17
    ∷ number (policy_refusal (set (started_a 64) 17 3)) 17
    ∷ number (policy_refusal (with_starts 1 (0 ∷ 64 ∷ []) (two_bounds 8 8))) 17
    ∷ number (policy_refusal (started_a 64 ++ (0 ∷ []))) 6
    -- and in version 1 there is none: what stands at its place is a mask
    ∷ number (policy_refusal (set policy_a 10 64)) 8
    -- several variables, the values of which stand in one number
    ∷ rows (book_rows started_mixed) rows_of_started_mixed
    -- 11: what is reached depends on the start. S with 7 reaches 128 situations from 0, and 7 from 1
    ∷ number (length (situations (with_starts 1 (1 ∷ []) (policy_s 7)))) 7
    ∷ number (policy_refusal (with_starts 1 (1 ∷ []) (policy_s 7))) 0
    -- each byte in turn as 255
    ∷ bytes (numbers_with policy_refusal started_mixed 255) started_numbers
    ∷ []
