-- Tables 3 to 6 of the source (Khoumsi), with the automata that its text describes, and where propositions 2 and 5 part from definition 2.
-- One field: image 0, video 1, audio 2. Codes: image accepted 0 and rejected 1, video 2 and 3, audio 4 and 5. No events.
use Rattle.std.specs.Prelude.{List, [], ◌∷◌, ◌++◌, ℕ, length}
use Rattle.std.proofs.Math.Option.{none, some}
use Rattle.definitions.specs.Refusal.{situations}
use Rattle.definitions.specs.Build.{book_of, book_rows}
use Rattle.definitions.specs.Verdict.{findings}
use Rattle.definitions.specs.Cases.Claim.{Claim, number, rows, found}
use Rattle.definitions.specs.Cases.Samples.{policy, rule_of, like_g, found_after, no_findings, conflict_after, missing_after, missing_and_blocked_after}

-- "R1 Image, Video Accept - v := 0; R2 Audio Accept v < 2 v := v + 1; R3 Audio Reject v ≥ 2 -"
abbrev pub table3 : List ℕ
table3 = policy 0 1 3 (3 ∷ rule_of 3 1 0 0 0 2 ++ rule_of 4 1 0 0 2 1 ++ rule_of 4 0 0 2 0 0)

-- "R1 Image, Video Accept - v := 0; R2 Image, Audio Accept v < 2 v := v + 1; R3 Image, Audio Reject v ≥ 2 -", the rules at three levels
abbrev pub table4 : ℕ → ℕ → ℕ → List ℕ
table4 l1 l2 l3 = policy 0 1 3 (3 ∷ rule_of 3 1 l1 0 0 2 ++ rule_of 5 1 l2 0 2 1 ++ rule_of 5 0 l3 2 0 0)

-- "R1 Image, Video Accept v < 1 v := 0; R2 Image Accept v < 1 v := v + 1", "images and videos are the only supported types"
abbrev pub table5 : List ℕ
table5 = policy 0 1 2 (2 ∷ rule_of 3 1 0 0 1 2 ++ rule_of 1 1 0 0 1 1)

-- "R1 Image, Video Accept v < 1 v := 0; R2 Image, Audio Accept v < 1 v := v + 1; R3 Image Reject v ≥ 1 v := 0"
abbrev pub table6 : List ℕ
table6 = policy 0 1 3 (3 ∷ rule_of 3 1 0 0 1 2 ++ rule_of 5 1 0 0 1 1 ++ rule_of 1 0 0 1 0 2)

-- figure 3: state 1 to 3 is v = 0 to 2
abbrev pub figure3 : List (List ℕ)
figure3 =
    (1 ∷ 0 ∷ 1 ∷ 0 ∷ 2 ∷ 0 ∷ [])
    ∷ (1 ∷ 0 ∷ 1 ∷ 0 ∷ 3 ∷ 0 ∷ [])
    ∷ (1 ∷ 0 ∷ 1 ∷ 0 ∷ 0 ∷ 3 ∷ [])
    ∷ []

-- figure 5: states 1 to 7 are v in {0}, {0, 1}, {1}, {0, 1, 2}, {1, 2}, {0, 2}, {2}. From {1, 2} audio may be accepted or rejected, each leading to {2}
abbrev pub figure5 : List (List ℕ)
figure5 =
    (2 ∷ 0 ∷ 1 ∷ 0 ∷ 3 ∷ 0 ∷ [])
    ∷ (4 ∷ 0 ∷ 1 ∷ 0 ∷ 5 ∷ 0 ∷ [])
    ∷ (6 ∷ 0 ∷ 1 ∷ 0 ∷ 7 ∷ 0 ∷ [])
    ∷ (4 ∷ 7 ∷ 1 ∷ 0 ∷ 5 ∷ 7 ∷ [])
    ∷ (6 ∷ 7 ∷ 1 ∷ 0 ∷ 7 ∷ 7 ∷ [])
    ∷ (2 ∷ 7 ∷ 1 ∷ 0 ∷ 3 ∷ 7 ∷ [])
    ∷ (1 ∷ 7 ∷ 1 ∷ 0 ∷ 0 ∷ 7 ∷ [])
    ∷ []

-- figure 7: states 1 to 3 are v in {0}, {0, 1}, {1}
abbrev pub figure7 : List (List ℕ)
figure7 =
    (2 ∷ 0 ∷ 1 ∷ 0 ∷ 3 ∷ 0 ∷ [])
    ∷ (2 ∷ 1 ∷ 1 ∷ 0 ∷ 3 ∷ 0 ∷ [])
    ∷ (0 ∷ 1 ∷ 0 ∷ 0 ∷ 0 ∷ 0 ∷ [])
    ∷ []

abbrev pub khoumsi_cases : List Claim
khoumsi_cases =
    rows (book_rows table3) figure3
    ∷ found (findings (book_of table3)) no_findings
    -- table 4 by method 1: "We obtain the deterministic automaton of Fig. 3"; remark 2, conflict-free
    ∷ rows (book_rows (table4 2 1 0)) figure3
    -- by method 2: conflicts in (0, 2), (1, 2), (0, 1, 2) and 2, complete, nonblocking
    ∷ rows (book_rows (table4 0 0 0)) figure5
    ∷ found (findings (book_of (table4 0 0 0))) (conflict_after 0 (0 ∷ 0 ∷ []))
    -- figure 6: (0) and (0, 1) are alike, so one state; complete and nonblocking though v = 1 has no rule
    ∷ number (length (situations table5)) 2
    ∷ rows (book_rows table5) ((1 ∷ 0 ∷ 1 ∷ 0 ∷ []) ∷ [])
    ∷ found (findings (book_of table5)) no_findings
    -- figure 7: "(0,1) has outgoing transitions labeled Im/A and Im/R"
    ∷ rows (book_rows table6) figure7
    ∷ found (findings (book_of table6)) (record { conflict = some (found_after 0 (0 ∷ [])); missing = some (found_after 1 (4 ∷ [])); blocked = none })
    -- G with an event that changes nothing and one that resets: at v = 1 the first event alone makes a cycle of states with events only, which
    -- proposition 2 calls blocking; the second event leads out of it, so definition 2 does not
    ∷ found (findings (book_of (like_g 2 (0 ∷ 2 ∷ [])))) (missing_after 0 (2 ∷ []))
    -- G with an event that changes nothing: no state is a deadlock, so proposition 5 calls it nonblocking; after one request no rule is ever enabled
    ∷ found (findings (book_of (like_g 1 (0 ∷ [])))) (missing_and_blocked_after 0 (1 ∷ []))
    ∷ []
