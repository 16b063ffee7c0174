-- Policies with several fields, variables and events, and mixed levels: the places at which records are read, the numbers of requests, valuations and codes,
-- and findings whose requests, codes and histories differ. What they give was computed by the reference.
use Rattle.std.specs.Prelude.{List, [], ◌∷◌, ◌++◌, ℕ, length}
use Rattle.std.proofs.Math.Option.{some}
use Rattle.definitions.specs.Build.{book_of}
use Rattle.definitions.specs.Verdict.{Findings, findings, verdict_buffers}
use Rattle.definitions.specs.Shelf.{shelf_text}
use Rattle.definitions.specs.Cases.Claim.{Claim, bytes, found}
use Rattle.definitions.specs.Cases.Samples.{rule_of, like_a, policy_f, policy_g, book_a, lent, found_after}

-- a policy of E events, fields with these counts, P variables and R rules
abbrev policy_of : ℕ → List ℕ → ℕ → ℕ → List ℕ → List ℕ
policy_of E counts P R rest = 0x50 ∷ 0x4F ∷ 0x4C ∷ 0 ∷ 1 ∷ E ∷ length counts ∷ P ∷ R ∷ counts ++ rest

-- Fields of 2, 3 and 2 values. Variable a has the bound 2, b the bound 3. Event 0 sets a to zero, event 1 adds one to b. While b < 3: every request is accepted
-- while a < 2; request 0 is, and adds one to a, at a level of its own; request 9 is rejected from a = 2 on, and sets b to zero; requests 2 to 5 are rejected
-- from b = 1 on. The four levels are given
abbrev pub several_with : ℕ → ℕ → ℕ → ℕ → List ℕ
several_with i j k l =
    policy_of 2 (2 ∷ 3 ∷ 2 ∷ []) 2 4 (
    0 ∷ 3 ∷ 0 ∷ 7 ∷ 0 ∷ 3 ∷ 1 ∷ i ∷ 0 ∷ 2 ∷ 0 ∷ 0 ∷ 3 ∷ 0
    ∷ 0 ∷ 1 ∷ 0 ∷ 1 ∷ 0 ∷ 1 ∷ 1 ∷ j ∷ 0 ∷ 2 ∷ 1 ∷ 0 ∷ 3 ∷ 0
    ∷ 0 ∷ 2 ∷ 0 ∷ 2 ∷ 0 ∷ 2 ∷ 0 ∷ k ∷ 2 ∷ 0 ∷ 0 ∷ 0 ∷ 3 ∷ 2
    ∷ 0 ∷ 1 ∷ 0 ∷ 6 ∷ 0 ∷ 3 ∷ 0 ∷ l ∷ 0 ∷ 0 ∷ 0 ∷ 1 ∷ 3 ∷ 0
    ∷ 2 ∷ 0
    ∷ 0 ∷ 1 ∷ [])

abbrev pub several : List ℕ
several = several_with 0 1 3 0

-- Fields of 4, 2, 4 and 2 values, so 64 requests and codes up to 128. The event sets v to zero. Requests below 48 are accepted, and the others while v < 2;
-- request 20 adds one, at a greater level; request 61 may add one; request 63 is rejected from v = 2 on
abbrev pub wide : List ℕ
wide =
    policy_of 1 (4 ∷ 2 ∷ 4 ∷ 2 ∷ []) 1 5 (
    0 ∷ 7 ∷ 0 ∷ 3 ∷ 0 ∷ 15 ∷ 0 ∷ 3 ∷ 1 ∷ 0 ∷ 0 ∷ 0 ∷ 0
    ∷ 0 ∷ 8 ∷ 0 ∷ 3 ∷ 0 ∷ 15 ∷ 0 ∷ 3 ∷ 1 ∷ 0 ∷ 0 ∷ 2 ∷ 0
    ∷ 0 ∷ 8 ∷ 0 ∷ 2 ∷ 0 ∷ 4 ∷ 0 ∷ 2 ∷ 1 ∷ 0 ∷ 0 ∷ 2 ∷ 1
    ∷ 0 ∷ 8 ∷ 0 ∷ 2 ∷ 0 ∷ 8 ∷ 0 ∷ 2 ∷ 0 ∷ 0 ∷ 2 ∷ 0 ∷ 0
    ∷ 0 ∷ 2 ∷ 0 ∷ 1 ∷ 0 ∷ 4 ∷ 0 ∷ 1 ∷ 1 ∷ 1 ∷ 0 ∷ 0 ∷ 1
    ∷ 2 ∷ [])

abbrev book_of_several : List ℕ
book_of_several =
    66 ∷ 79 ∷ 75 ∷ 0 ∷ 1 ∷ 2 ∷ 3 ∷ 2 ∷ 3 ∷ 2 ∷ 0 ∷ 10
    ∷ 1 ∷ 2 ∷ 3 ∷ 0 ∷ 1 ∷ 0 ∷ 1 ∷ 0 ∷ 1 ∷ 0 ∷ 1 ∷ 0 ∷ 1 ∷ 0 ∷ 1 ∷ 0 ∷ 1 ∷ 0 ∷ 1 ∷ 0 ∷ 1 ∷ 0 ∷ 1 ∷ 0 ∷ 1 ∷ 0
    ∷ 2 ∷ 4 ∷ 5 ∷ 0 ∷ 2 ∷ 0 ∷ 2 ∷ 2 ∷ 2 ∷ 2 ∷ 2 ∷ 2 ∷ 2 ∷ 2 ∷ 2 ∷ 0 ∷ 2 ∷ 0 ∷ 2 ∷ 0 ∷ 2 ∷ 0 ∷ 2 ∷ 0 ∷ 2 ∷ 0
    ∷ 1 ∷ 5 ∷ 6 ∷ 0 ∷ 3 ∷ 0 ∷ 3 ∷ 0 ∷ 3 ∷ 0 ∷ 3 ∷ 0 ∷ 3 ∷ 0 ∷ 3 ∷ 0 ∷ 3 ∷ 0 ∷ 3 ∷ 0 ∷ 3 ∷ 0 ∷ 3 ∷ 0 ∷ 3 ∷ 0
    ∷ 4 ∷ 7 ∷ 8 ∷ 0 ∷ 4 ∷ 0 ∷ 4 ∷ 4 ∷ 4 ∷ 4 ∷ 4 ∷ 4 ∷ 4 ∷ 4 ∷ 4 ∷ 0 ∷ 4 ∷ 0 ∷ 4 ∷ 0 ∷ 4 ∷ 0 ∷ 4 ∷ 0 ∷ 4 ∷ 0
    ∷ 2 ∷ 8 ∷ 9 ∷ 0 ∷ 5 ∷ 0 ∷ 5 ∷ 5 ∷ 5 ∷ 5 ∷ 5 ∷ 5 ∷ 5 ∷ 5 ∷ 5 ∷ 0 ∷ 5 ∷ 0 ∷ 5 ∷ 0 ∷ 5 ∷ 0 ∷ 5 ∷ 0 ∷ 5 ∷ 0
    ∷ 1 ∷ 9 ∷ 0 ∷ 0 ∷ 0 ∷ 0 ∷ 0 ∷ 0 ∷ 0 ∷ 0 ∷ 0 ∷ 0 ∷ 0 ∷ 0 ∷ 0 ∷ 0 ∷ 0 ∷ 0 ∷ 0 ∷ 0 ∷ 0 ∷ 6 ∷ 0 ∷ 0 ∷ 0 ∷ 0
    ∷ 7 ∷ 7 ∷ 0 ∷ 0 ∷ 0 ∷ 0 ∷ 0 ∷ 0 ∷ 0 ∷ 0 ∷ 0 ∷ 0 ∷ 0 ∷ 0 ∷ 0 ∷ 0 ∷ 0 ∷ 0 ∷ 0 ∷ 0 ∷ 0 ∷ 0 ∷ 0 ∷ 0 ∷ 0 ∷ 0
    ∷ 4 ∷ 7 ∷ 10 ∷ 0 ∷ 8 ∷ 0 ∷ 8 ∷ 8 ∷ 8 ∷ 8 ∷ 8 ∷ 8 ∷ 8 ∷ 8 ∷ 8 ∷ 0 ∷ 8 ∷ 0 ∷ 8 ∷ 0 ∷ 8 ∷ 0 ∷ 8 ∷ 0 ∷ 8 ∷ 0
    ∷ 2 ∷ 10 ∷ 0 ∷ 0 ∷ 0 ∷ 0 ∷ 0 ∷ 9 ∷ 0 ∷ 9 ∷ 0 ∷ 9 ∷ 0 ∷ 9 ∷ 0 ∷ 0 ∷ 0 ∷ 0 ∷ 0 ∷ 0 ∷ 0 ∷ 6 ∷ 0 ∷ 0 ∷ 0 ∷ 0
    ∷ 4 ∷ 7 ∷ 0 ∷ 0 ∷ 0 ∷ 0 ∷ 0 ∷ 10 ∷ 0 ∷ 10 ∷ 0 ∷ 10 ∷ 0 ∷ 10 ∷ 0 ∷ 0 ∷ 0 ∷ 0 ∷ 0 ∷ 0 ∷ 0 ∷ 6 ∷ 0 ∷ 0 ∷ 0 ∷ 0 ∷ []

-- "states 10", "conflict 2 1 1", "missing 0 2 2 2", "blocked 3 1 1 1"
abbrev text_of_several : List ℕ
text_of_several =
    115 ∷ 116 ∷ 97 ∷ 116 ∷ 101 ∷ 115 ∷ 32 ∷ 49 ∷ 48 ∷ 10
    ∷ 99 ∷ 111 ∷ 110 ∷ 102 ∷ 108 ∷ 105 ∷ 99 ∷ 116 ∷ 32 ∷ 50 ∷ 32 ∷ 49 ∷ 32 ∷ 49 ∷ 10
    ∷ 109 ∷ 105 ∷ 115 ∷ 115 ∷ 105 ∷ 110 ∷ 103 ∷ 32 ∷ 48 ∷ 32 ∷ 50 ∷ 32 ∷ 50 ∷ 32 ∷ 50 ∷ 10
    ∷ 98 ∷ 108 ∷ 111 ∷ 99 ∷ 107 ∷ 101 ∷ 100 ∷ 32 ∷ 51 ∷ 32 ∷ 49 ∷ 32 ∷ 49 ∷ 32 ∷ 49 ∷ 10 ∷ []

-- "states 3", "conflict -", "missing 1 2 3 3", "blocked -"
abbrev text_f : List ℕ
text_f =
    115 ∷ 116 ∷ 97 ∷ 116 ∷ 101 ∷ 115 ∷ 32 ∷ 51 ∷ 10
    ∷ 99 ∷ 111 ∷ 110 ∷ 102 ∷ 108 ∷ 105 ∷ 99 ∷ 116 ∷ 32 ∷ 45 ∷ 10
    ∷ 109 ∷ 105 ∷ 115 ∷ 115 ∷ 105 ∷ 110 ∷ 103 ∷ 32 ∷ 49 ∷ 32 ∷ 50 ∷ 32 ∷ 51 ∷ 32 ∷ 51 ∷ 10
    ∷ 98 ∷ 108 ∷ 111 ∷ 99 ∷ 107 ∷ 101 ∷ 100 ∷ 32 ∷ 45 ∷ 10 ∷ []

-- "states 2", "conflict -", "missing 0 1 0", "blocked 1 0"
abbrev text_g : List ℕ
text_g =
    115 ∷ 116 ∷ 97 ∷ 116 ∷ 101 ∷ 115 ∷ 32 ∷ 50 ∷ 10
    ∷ 99 ∷ 111 ∷ 110 ∷ 102 ∷ 108 ∷ 105 ∷ 99 ∷ 116 ∷ 32 ∷ 45 ∷ 10
    ∷ 109 ∷ 105 ∷ 115 ∷ 115 ∷ 105 ∷ 110 ∷ 103 ∷ 32 ∷ 48 ∷ 32 ∷ 49 ∷ 32 ∷ 48 ∷ 10
    ∷ 98 ∷ 108 ∷ 111 ∷ 99 ∷ 107 ∷ 101 ∷ 100 ∷ 32 ∷ 49 ∷ 32 ∷ 48 ∷ 10 ∷ []

abbrev found_in_several : Findings
found_in_several = record { conflict = some (found_after 2 (1 ∷ [])); missing = some (found_after 0 (2 ∷ 2 ∷ [])); blocked = some (1 ∷ 1 ∷ 1 ∷ []) }

abbrev pub several_cases : List Claim
several_cases =
    bytes (book_of several) book_of_several
    ∷ found (findings book_of_several) found_in_several
    ∷ bytes (shelf_text several) text_of_several
    -- each history goes into its own buffer
    ∷ bytes (verdict_buffers book_of_several (lent 128) (lent 129) (lent 130)).for_conflict (1 ∷ lent 127)
    ∷ bytes (verdict_buffers book_of_several (lent 128) (lent 129) (lent 130)).for_missing (2 ∷ 2 ∷ lent 127)
    ∷ bytes (verdict_buffers book_of_several (lent 128) (lent 129) (lent 130)).for_blocked (1 ∷ 1 ∷ 1 ∷ lent 127)
    ∷ bytes (shelf_text policy_f) text_f
    ∷ bytes (shelf_text policy_g) text_g
    -- A and a rule whose tests contradict each other: it is never enabled, and outranks nothing
    ∷ bytes (book_of (like_a 4 2 0 (rule_of 2 0 9 2 1 2))) book_a
    ∷ []
