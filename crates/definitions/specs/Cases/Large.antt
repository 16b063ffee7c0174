-- Cases that take the most to compute: S and the limit of row 11, with up to 128 situations; 64 requests; the levels all equal and all different. What
-- document 01 does not say was computed by the reference.
use Rattle.std.specs.Prelude.{List, [], ◌∷◌, ◌++◌, ℕ, length}
use Rattle.definitions.specs.Refusal.{policy_refusal, situations}
use Rattle.definitions.specs.Build.{book_rows}
use Rattle.definitions.specs.Shelf.{shelf_text}
use Rattle.definitions.specs.Cases.Claim.{Claim, number, bytes}
use Rattle.definitions.specs.Cases.Samples.{policy, rule_of, policy_s}
use Rattle.definitions.specs.Cases.Several.{several_with, wide}

-- all non-empty sets of 0 and a subset of 1 to 6, or of such a subset alone: S with 6, and a request that leaves 0 out
abbrev policy127 : List ℕ
policy127 = policy 0 1 4 (3 ∷ rule_of 3 1 0 0 1 0 ++ rule_of 1 1 0 0 1 1 ++ rule_of 3 1 0 1 6 1 ++ rule_of 4 1 0 1 0 0)

-- "states 6", "conflict 63 2 41 123", "missing 48 2 41 41", "blocked -"
abbrev text_of_wide : List ℕ
text_of_wide =
    115 ∷ 116 ∷ 97 ∷ 116 ∷ 101 ∷ 115 ∷ 32 ∷ 54 ∷ 10
    ∷ 99 ∷ 111 ∷ 110 ∷ 102 ∷ 108 ∷ 105 ∷ 99 ∷ 116 ∷ 32 ∷ 54 ∷ 51 ∷ 32 ∷ 50 ∷ 32 ∷ 52 ∷ 49 ∷ 32 ∷ 49 ∷ 50 ∷ 51 ∷ 10
    ∷ 109 ∷ 105 ∷ 115 ∷ 115 ∷ 105 ∷ 110 ∷ 103 ∷ 32 ∷ 52 ∷ 56 ∷ 32 ∷ 50 ∷ 32 ∷ 52 ∷ 49 ∷ 32 ∷ 52 ∷ 49 ∷ 10
    ∷ 98 ∷ 108 ∷ 111 ∷ 99 ∷ 107 ∷ 101 ∷ 100 ∷ 32 ∷ 45 ∷ 10 ∷ []

-- the levels all equal: "states 13", "conflict 2 1 1", "missing 0 3 1 1 1", "blocked 3 1 1 1"
abbrev text_of_equal : List ℕ
text_of_equal =
    115 ∷ 116 ∷ 97 ∷ 116 ∷ 101 ∷ 115 ∷ 32 ∷ 49 ∷ 51 ∷ 10
    ∷ 99 ∷ 111 ∷ 110 ∷ 102 ∷ 108 ∷ 105 ∷ 99 ∷ 116 ∷ 32 ∷ 50 ∷ 32 ∷ 49 ∷ 32 ∷ 49 ∷ 10
    ∷ 109 ∷ 105 ∷ 115 ∷ 115 ∷ 105 ∷ 110 ∷ 103 ∷ 32 ∷ 48 ∷ 32 ∷ 51 ∷ 32 ∷ 49 ∷ 32 ∷ 49 ∷ 32 ∷ 49 ∷ 10
    ∷ 98 ∷ 108 ∷ 111 ∷ 99 ∷ 107 ∷ 101 ∷ 100 ∷ 32 ∷ 51 ∷ 32 ∷ 49 ∷ 32 ∷ 49 ∷ 32 ∷ 49 ∷ 10 ∷ []

-- all different, the later rule the greater: "states 10", "conflict -", "missing 0 2 2 2", "blocked 3 1 1 1"
abbrev text_of_rising : List ℕ
text_of_rising =
    115 ∷ 116 ∷ 97 ∷ 116 ∷ 101 ∷ 115 ∷ 32 ∷ 49 ∷ 48 ∷ 10
    ∷ 99 ∷ 111 ∷ 110 ∷ 102 ∷ 108 ∷ 105 ∷ 99 ∷ 116 ∷ 32 ∷ 45 ∷ 10
    ∷ 109 ∷ 105 ∷ 115 ∷ 115 ∷ 105 ∷ 110 ∷ 103 ∷ 32 ∷ 48 ∷ 32 ∷ 50 ∷ 32 ∷ 50 ∷ 32 ∷ 50 ∷ 10
    ∷ 98 ∷ 108 ∷ 111 ∷ 99 ∷ 107 ∷ 101 ∷ 100 ∷ 32 ∷ 51 ∷ 32 ∷ 49 ∷ 32 ∷ 49 ∷ 32 ∷ 49 ∷ 10 ∷ []

-- all different, the earlier rule the greater: "states 4", "conflict -", "missing 0 3 1 1 1", "blocked 3 1 1 1"
abbrev text_of_falling : List ℕ
text_of_falling =
    115 ∷ 116 ∷ 97 ∷ 116 ∷ 101 ∷ 115 ∷ 32 ∷ 52 ∷ 10
    ∷ 99 ∷ 111 ∷ 110 ∷ 102 ∷ 108 ∷ 105 ∷ 99 ∷ 116 ∷ 32 ∷ 45 ∷ 10
    ∷ 109 ∷ 105 ∷ 115 ∷ 115 ∷ 105 ∷ 110 ∷ 103 ∷ 32 ∷ 48 ∷ 32 ∷ 51 ∷ 32 ∷ 49 ∷ 32 ∷ 49 ∷ 32 ∷ 49 ∷ 10
    ∷ 98 ∷ 108 ∷ 111 ∷ 99 ∷ 107 ∷ 101 ∷ 100 ∷ 32 ∷ 51 ∷ 32 ∷ 49 ∷ 32 ∷ 49 ∷ 32 ∷ 49 ∷ 10 ∷ []

abbrev pub large_cases : List Claim
large_cases =
    -- the levels of a policy all equal, and all different in both directions
    bytes (shelf_text (several_with 5 5 5 5)) text_of_equal
    ∷ bytes (shelf_text (several_with 0 1 2 3)) text_of_rising
    ∷ bytes (shelf_text (several_with 3 2 1 0)) text_of_falling
    -- four fields; numbers of two and three digits
    ∷ bytes (shelf_text wide) text_of_wide
    -- S with 6
    ∷ number (length (situations (policy_s 6))) 64
    ∷ number (length (book_rows (policy_s 6))) 1
    -- S with 7 has 128 situations; 127 pass
    ∷ number (policy_refusal (policy_s 7)) 11
    ∷ number (length (situations policy127)) 127
    ∷ number (policy_refusal policy127) 0
    ∷ []
