-- Document 01's "Cases to be proved", row by row but for S, which stands in Large, with one case more for its first trainee error.
use Rattle.std.specs.Prelude.{List, [], ◌∷◌, ◌++◌, ℕ, length, set, replicate}
use Rattle.std.proofs.Math.Option.{none, some}
use Rattle.definitions.specs.Refusal.{situations}
use Rattle.definitions.specs.Build.{book_of, book_rows}
use Rattle.definitions.specs.Verdict.{findings}
use Rattle.definitions.specs.Compare.{comparison}
use Rattle.definitions.specs.Shelf.{shelf_text}
use Rattle.definitions.specs.Cases.Claim.{Claim, number, bytes, rows, found, history}
use Rattle.definitions.specs.Cases.Samples.{policy_a, policy_b, policy_c, policy_d, policy_e, policy_f, policy_g, policy_j, policy_h, policy_l, book_a, no_findings, conflict_after, missing_after, missing_and_blocked_after}

-- "states 3", "conflict 0 2 3 3", "missing -", "blocked -"
abbrev text_e : List ℕ
text_e =
    115 ∷ 116 ∷ 97 ∷ 116 ∷ 101 ∷ 115 ∷ 32 ∷ 51 ∷ 10
    ∷ 99 ∷ 111 ∷ 110 ∷ 102 ∷ 108 ∷ 105 ∷ 99 ∷ 116 ∷ 32 ∷ 48 ∷ 32 ∷ 50 ∷ 32 ∷ 51 ∷ 32 ∷ 51 ∷ 10
    ∷ 109 ∷ 105 ∷ 115 ∷ 115 ∷ 105 ∷ 110 ∷ 103 ∷ 32 ∷ 45 ∷ 10
    ∷ 98 ∷ 108 ∷ 111 ∷ 99 ∷ 107 ∷ 101 ∷ 100 ∷ 32 ∷ 45 ∷ 10 ∷ []

-- "refused 5"
abbrev text_refused : List ℕ
text_refused = 114 ∷ 101 ∷ 102 ∷ 117 ∷ 115 ∷ 101 ∷ 100 ∷ 32 ∷ 53 ∷ 10 ∷ []

abbrev pub document_cases : List Claim
document_cases =
    -- A
    bytes (book_of policy_a) book_a
    ∷ found (findings (book_of policy_a)) no_findings
    -- B against A, and A against B
    ∷ history (comparison (book_of policy_b) (book_of policy_a)) (some (3 ∷ 3 ∷ []))
    ∷ history (comparison (book_of policy_a) (book_of policy_b)) (some (3 ∷ 3 ∷ []))
    ∷ history (comparison (book_of policy_a) (book_of policy_a)) none
    -- C
    ∷ bytes (book_of policy_c) book_a
    -- D
    ∷ number (length (situations policy_d)) 5
    ∷ bytes (book_of policy_d) book_a
    -- E, and at level 1
    ∷ found (findings (book_of (policy_e 0))) (conflict_after 0 (3 ∷ 3 ∷ []))
    ∷ found (findings (book_of (policy_e 1))) no_findings
    -- the program shelf on E, on a bad file, and on a long one
    ∷ bytes (shelf_text (policy_e 0)) text_e
    ∷ bytes (shelf_text (set policy_a 6 5)) text_refused
    ∷ bytes (shelf_text (set policy_a 6 5 ++ replicate 1024 0)) text_refused
    -- F
    ∷ found (findings (book_of policy_f)) (missing_after 1 (3 ∷ 3 ∷ []))
    -- G
    ∷ rows (book_rows policy_g) ((2 ∷ 0 ∷ 2 ∷ 0 ∷ []) ∷ (0 ∷ 0 ∷ 0 ∷ 0 ∷ []) ∷ [])
    ∷ found (findings (book_of policy_g)) (missing_and_blocked_after 0 (0 ∷ []))
    -- J
    ∷ found (findings (book_of policy_j)) (missing_after 0 (1 ∷ []))
    -- H
    ∷ number (length (situations policy_h)) 2
    ∷ rows (book_rows policy_h) ((1 ∷ 0 ∷ []) ∷ [])
    ∷ found (findings (book_of policy_h)) no_findings
    -- a lower level does not apply because the higher rule decided the same
    ∷ rows (book_rows policy_l) ((1 ∷ 0 ∷ []) ∷ [])
    ∷ []
