-- Request 5: policies without rules. What the request does not say was computed by the reference.
use Rattle.std.specs.Prelude.{List, [], ◌∷◌, ◌++◌, ℕ, length, set, take, replicate}
use Rattle.std.proofs.Math.Option.{none, some}
use Rattle.definitions.specs.Answer.{given}
use Rattle.definitions.specs.Book.{book_bytes}
use Rattle.definitions.specs.Refusal.{policy_refusal, situations}
use Rattle.definitions.specs.Build.{book_of, build_answer}
use Rattle.definitions.specs.Verdict.{findings, verdict_buffers}
use Rattle.definitions.specs.Compare.{comparison}
use Rattle.definitions.specs.Shelf.{shelf_text}
use Rattle.definitions.specs.Page.{page}
use Rattle.definitions.specs.Way.{way}
use Rattle.definitions.specs.Demands.{events_row}
use Rattle.definitions.specs.Cases.Claim.{Claim, number, bytes, found, history, builds}
use Rattle.definitions.specs.Cases.Samples.{policy, rule_of, lent, missing_and_blocked_after}
use Rattle.definitions.specs.Cases.EachByte.{numbers_with}

-- a policy without rules: its version, E events, the value counts, P variables; the starting values of version 2 and the changes of events behind them
abbrev no_rules : ℕ → ℕ → List ℕ → ℕ → List ℕ → List ℕ
no_rules version E counts P rest = 0x50 ∷ 0x4F ∷ 0x4C ∷ 0 ∷ version ∷ E ∷ length counts ∷ P ∷ 0 ∷ counts ++ rest

-- the book of one state in which each of E events leads to itself, and no request is possible
abbrev events_only : ℕ → ℕ → List ℕ → ℕ → List ℕ
events_only E F counts Q = book_bytes (E ∷ F ∷ counts) (events_row E Q ∷ [])

-- one event and three requests; the same with two variables, of version 1, and of version 2 with their starting values
abbrev plain : List ℕ
plain = no_rules 1 1 (3 ∷ []) 0 []

abbrev changing : List ℕ
changing = no_rules 1 1 (3 ∷ []) 2 (2 ∷ 1 ∷ [])

abbrev started : List ℕ
started = no_rules 2 1 (3 ∷ []) 2 (5 ∷ 63 ∷ 2 ∷ 1 ∷ [])

abbrev book_of_plain : List ℕ
book_of_plain = 0x42 ∷ 0x4F ∷ 0x4B ∷ 0 ∷ 1 ∷ 1 ∷ 1 ∷ 3 ∷ 0 ∷ 0 ∷ 0 ∷ 1 ∷ 1 ∷ 0 ∷ 0 ∷ 0 ∷ 0 ∷ 0 ∷ 0 ∷ []

-- four fields with 64 requests, and four variables with eight events
abbrev four : List ℕ
four = 4 ∷ 2 ∷ 4 ∷ 2 ∷ []

abbrev four_starts : List ℕ
four_starts = 63 ∷ 0 ∷ 1 ∷ 62 ∷ []

abbrev changes : List ℕ
changes = (1 ∷ 0 ∷ 0 ∷ 0 ∷ []) ++ (2 ∷ 1 ∷ 1 ∷ 2 ∷ []) ++ replicate 20 1 ++ (0 ∷ 0 ∷ 0 ∷ 2 ∷ [])

abbrev largest : List ℕ
largest = no_rules 2 8 four 4 (four_starts ++ changes)

-- one rule that rejects every request, and one that cannot apply, since no number is at least 5 and below 3
abbrev rejecting : List ℕ
rejecting = policy 1 0 1 (3 ∷ 0 ∷ 7 ∷ 0 ∷ 0 ∷ [])

abbrev contradictory : List ℕ
contradictory = policy 1 1 1 (3 ∷ rule_of 7 1 0 5 3 1 ++ (2 ∷ []))

-- "states 1", "conflict -", "missing 0 0", "blocked 0"
abbrev text_of_plain : List ℕ
text_of_plain =
    115 ∷ 116 ∷ 97 ∷ 116 ∷ 101 ∷ 115 ∷ 32 ∷ 49 ∷ 10
    ∷ 99 ∷ 111 ∷ 110 ∷ 102 ∷ 108 ∷ 105 ∷ 99 ∷ 116 ∷ 32 ∷ 45 ∷ 10
    ∷ 109 ∷ 105 ∷ 115 ∷ 115 ∷ 105 ∷ 110 ∷ 103 ∷ 32 ∷ 48 ∷ 32 ∷ 48 ∷ 10
    ∷ 98 ∷ 108 ∷ 111 ∷ 99 ∷ 107 ∷ 101 ∷ 100 ∷ 32 ∷ 48 ∷ 10 ∷ []

-- "  1   0 ..."
abbrev page_of_plain : List ℕ
page_of_plain = 32 ∷ 32 ∷ 49 ∷ 32 ∷ 32 ∷ 32 ∷ 48 ∷ 32 ∷ 46 ∷ 46 ∷ 46 ∷ replicate 61 32 ++ (10 ∷ [])

abbrev pub no_rules_cases : List Claim
no_rules_cases =
    -- "Its book has one state whose events lead to itself"; "equal books whatever their variables are"
    bytes (book_of plain) book_of_plain
    ∷ bytes (book_of changing) book_of_plain
    ∷ bytes (book_of started) book_of_plain
    -- the smallest file, and E = 0 and 8, P = 0 and 4, F = 4 in either version
    ∷ bytes (book_of (no_rules 1 0 (1 ∷ []) 0 [])) (events_only 0 1 (1 ∷ 0 ∷ 0 ∷ 0 ∷ []) 1)
    ∷ bytes (book_of (no_rules 1 0 four 0 [])) (events_only 0 4 four 64)
    ∷ bytes (book_of (no_rules 1 0 four 4 [])) (events_only 0 4 four 64)
    ∷ bytes (book_of (no_rules 2 0 four 4 four_starts)) (events_only 0 4 four 64)
    ∷ bytes (book_of (no_rules 1 8 four 0 [])) (events_only 8 4 four 64)
    ∷ bytes (book_of (no_rules 2 8 four 0 [])) (events_only 8 4 four 64)
    ∷ bytes (book_of (no_rules 1 8 four 4 changes)) (events_only 8 4 four 64)
    ∷ bytes (book_of largest) (events_only 8 4 four 64)
    ∷ number (length (situations largest)) 1
    -- "Missing is request 0 after the empty history; blocked holds after the empty history"
    ∷ found (findings book_of_plain) (missing_and_blocked_after 0 [])
    ∷ found (findings (book_of (no_rules 1 0 four 0 []))) (missing_and_blocked_after 0 [])
    ∷ found (findings (book_of largest)) (missing_and_blocked_after 0 [])
    ∷ bytes (shelf_text plain) text_of_plain
    ∷ bytes (page book_of_plain) page_of_plain
    ∷ history (way book_of_plain 2 0) (some [])
    ∷ history (way book_of_plain 0 1) none
    ∷ history (way book_of_plain 0 2) none
    -- the calls: the book's length, and buffers in which no byte changes
    ∷ builds (build_answer started (lent 17284)) (given 19)
    ∷ builds (build_answer largest (lent 17284)) (given 148)
    ∷ bytes (verdict_buffers book_of_plain (lent 128) (lent 129) (lent 130)).for_missing (lent 129)
    ∷ bytes (verdict_buffers book_of_plain (lent 128) (lent 129) (lent 130)).for_blocked (lent 130)
    -- silence is no rejection; a rule that cannot apply answers nothing either; another frame is another book
    ∷ history (comparison book_of_plain (book_of rejecting)) (some (2 ∷ []))
    ∷ bytes (book_of contradictory) book_of_plain
    ∷ bytes (book_of (no_rules 1 1 (1 ∷ 3 ∷ []) 0 [])) (set (set (set book_of_plain 6 2) 7 1) 8 3)
    -- 5: R = 33, and with R = 0 "its other ranges stand"
    ∷ number (policy_refusal (set plain 8 33)) 5
    ∷ number (policy_refusal (no_rules 1 9 (3 ∷ []) 0 [])) 5
    ∷ number (policy_refusal (no_rules 1 1 [] 0 [])) 5
    ∷ number (policy_refusal (no_rules 1 1 (1 ∷ 1 ∷ 1 ∷ 1 ∷ 1 ∷ []) 0 [])) 5
    ∷ number (policy_refusal (no_rules 1 0 (3 ∷ []) 5 [])) 5
    -- 6: one byte less and one more, with no variables, with changes of events, with starting values
    ∷ number (policy_refusal (take 9 plain)) 6
    ∷ number (policy_refusal (plain ++ (0 ∷ []))) 6
    ∷ number (policy_refusal (take 11 changing)) 6
    ∷ number (policy_refusal (changing ++ (0 ∷ []))) 6
    ∷ number (policy_refusal (take 13 started)) 6
    ∷ number (policy_refusal (started ++ (0 ∷ []))) 6
    -- one rule, where the file has none
    ∷ number (policy_refusal (set plain 8 1)) 6
    -- 7: counts and requests
    ∷ number (policy_refusal (no_rules 1 1 (0 ∷ []) 0 [])) 7
    ∷ number (policy_refusal (no_rules 1 1 (16 ∷ []) 0 [])) 0
    ∷ number (policy_refusal (no_rules 1 1 (17 ∷ []) 0 [])) 7
    ∷ number (policy_refusal (no_rules 1 1 (13 ∷ 5 ∷ []) 0 [])) 7
    -- 17: a start of 64, of each variable
    ∷ number (policy_refusal (set started 10 63)) 0
    ∷ number (policy_refusal (set started 10 64)) 17
    ∷ number (policy_refusal (set started 11 64)) 17
    -- 9: a change of 3 in an event's record, the first and the last
    ∷ number (policy_refusal (set changing 10 3)) 9
    ∷ number (policy_refusal (set changing 11 3)) 9
    ∷ number (policy_refusal (set largest 17 3)) 9
    ∷ number (policy_refusal (set largest 48 3)) 9
    -- 7 before 17 before 9
    ∷ number (policy_refusal (set (set (set started 9 17) 10 64) 12 3)) 7
    ∷ number (policy_refusal (set (set started 10 64) 12 3)) 17
    -- each byte in turn as 255: the head and the count, the starting values, the changes
    ∷ bytes (numbers_with policy_refusal started 255) (3 ∷ 3 ∷ 3 ∷ 4 ∷ 4 ∷ 5 ∷ 5 ∷ 5 ∷ 5 ∷ 7 ∷ 17 ∷ 17 ∷ 9 ∷ 9 ∷ [])
    ∷ []
