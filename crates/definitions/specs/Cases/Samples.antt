-- The policies and books of document 01's cases, and books that are not built here.
use Rattle.std.specs.Prelude.{List, [], ◌∷◌, ◌++◌, ℕ, suc, ◌+◌, set, take, drop, replicate}
use Rattle.std.proofs.Math.Option.{none, some}
use Rattle.automaton.specs.Below.{list_below}
use Rattle.automaton.specs.History.{History}
use Rattle.definitions.specs.Book.{concat}
use Rattle.definitions.specs.Verdict.{Found, Findings}

-- a policy of E events, one field, P variables and R rules, from the value count on
abbrev pub policy : ℕ → ℕ → ℕ → List ℕ → List ℕ
policy E P R rest = 0x50 ∷ 0x4F ∷ 0x4C ∷ 0 ∷ 1 ∷ E ∷ 1 ∷ P ∷ R ∷ rest

-- the file of version 2 with the rules of a file of version 1 of F fields, and with these starting values
abbrev pub with_starts : ℕ → List ℕ → List ℕ → List ℕ
with_starts F starts p = set (take (9 + F) p ++ starts ++ drop (9 + F) p) 4 2

-- a rule with one mask below 256 and one variable: mask, decision, level, ge, lt, change
abbrev pub rule_of : ℕ → ℕ → ℕ → ℕ → ℕ → ℕ → List ℕ
rule_of m d l ge lt ch = 0 ∷ m ∷ d ∷ l ∷ ge ∷ lt ∷ ch ∷ []

-- A with other numbers in the tests of its second and third rule, another change in its third, and more rules
abbrev pub like_a : ℕ → ℕ → ℕ → List ℕ → List ℕ
like_a R n ch more = policy 1 1 R (2 ∷ rule_of 1 1 0 0 0 0 ++ rule_of 2 1 0 0 n 1 ++ rule_of 2 0 0 n 0 ch ++ more ++ (2 ∷ []))

abbrev pub policy_a : List ℕ
policy_a = like_a 3 2 0 []

abbrev pub policy_b : List ℕ
policy_b = like_a 3 1 0 []

abbrev pub policy_c : List ℕ
policy_c = like_a 4 2 0 (rule_of 2 0 0 5 0 0)

abbrev pub policy_d : List ℕ
policy_d = like_a 4 2 1 (rule_of 2 0 0 4 0 0)

-- E, its last rule at a level
abbrev pub policy_e : ℕ → List ℕ
policy_e l = like_a 4 2 0 (rule_of 1 0 l 2 0 0)

abbrev pub policy_f : List ℕ
policy_f = policy 1 1 2 (2 ∷ rule_of 1 1 0 0 0 0 ++ rule_of 2 1 0 0 2 1 ++ (2 ∷ []))

-- G, with events
abbrev pub like_g : ℕ → List ℕ → List ℕ
like_g E changes = policy E 1 1 (2 ∷ rule_of 3 1 0 0 1 1 ++ changes)

abbrev pub policy_g : List ℕ
policy_g = like_g 0 []

abbrev pub policy_j : List ℕ
policy_j = like_g 1 (2 ∷ [])

abbrev pub policy_h : List ℕ
policy_h = policy 0 1 2 (1 ∷ rule_of 1 1 0 0 1 0 ++ rule_of 1 1 0 0 1 1)

-- S, its lt 6 as another number
abbrev pub policy_s : ℕ → List ℕ
policy_s n = policy 0 1 3 (2 ∷ rule_of 3 1 0 0 1 0 ++ rule_of 1 1 0 0 1 1 ++ rule_of 3 1 0 1 n 1)

-- the greater level accepts and changes nothing, a lower one accepts and adds one: only the greater applies below 1
abbrev pub policy_l : List ℕ
policy_l = policy 0 1 3 (1 ∷ rule_of 1 1 1 0 1 0 ++ rule_of 1 1 0 0 1 1 ++ rule_of 1 0 0 1 0 0)

-- two fields of a and b values, one rule
abbrev pub two_fields : ℕ → ℕ → List ℕ
two_fields a b = 0x50 ∷ 0x4F ∷ 0x4C ∷ 0 ∷ 1 ∷ 0 ∷ 2 ∷ 0 ∷ 1 ∷ a ∷ b ∷ 0 ∷ 1 ∷ 0 ∷ 1 ∷ 1 ∷ 0 ∷ []

-- two variables, tested with a and b and never changed
abbrev pub two_bounds : ℕ → ℕ → List ℕ
two_bounds a b = policy 0 2 1 (1 ∷ 0 ∷ 1 ∷ 1 ∷ 0 ∷ 0 ∷ a ∷ 0 ∷ 0 ∷ b ∷ 0 ∷ [])

abbrev pub book_a : List ℕ
book_a =
    0x42 ∷ 0x4F ∷ 0x4B ∷ 0 ∷ 1 ∷ 1 ∷ 1 ∷ 2 ∷ 0 ∷ 0 ∷ 0 ∷ 3
    ∷ 1 ∷ 1 ∷ 0 ∷ 2 ∷ 0
    ∷ 1 ∷ 2 ∷ 0 ∷ 3 ∷ 0
    ∷ 1 ∷ 3 ∷ 0 ∷ 0 ∷ 3 ∷ []

-- a book of one event and three requests, with a state that no history reaches
abbrev pub foreign : List ℕ
foreign =
    0x42 ∷ 0x4F ∷ 0x4B ∷ 0 ∷ 1 ∷ 1 ∷ 1 ∷ 3 ∷ 0 ∷ 0 ∷ 0 ∷ 4
    ∷ 2 ∷ 1 ∷ 0 ∷ 0 ∷ 3 ∷ 2 ∷ 2
    ∷ 2 ∷ 0 ∷ 0 ∷ 0 ∷ 0 ∷ 1 ∷ 0
    ∷ 1 ∷ 3 ∷ 3 ∷ 0 ∷ 0 ∷ 0 ∷ 0
    ∷ 4 ∷ 0 ∷ 4 ∷ 4 ∷ 0 ∷ 4 ∷ 4 ∷ []

-- a book whose states are not numbered by their earliest histories
abbrev pub misnumbered : List ℕ
misnumbered = 0x42 ∷ 0x4F ∷ 0x4B ∷ 0 ∷ 1 ∷ 0 ∷ 1 ∷ 1 ∷ 0 ∷ 0 ∷ 0 ∷ 3 ∷ 3 ∷ 0 ∷ 0 ∷ 2 ∷ 2 ∷ 0 ∷ []

-- a book of n + 1 states in a chain, with one request: accepted on the way, rejected at the end
abbrev on_the_way : ℕ → List ℕ
on_the_way i = suc (suc i) ∷ 0 ∷ []

abbrev pub chain : ℕ → List ℕ
chain n = 0x42 ∷ 0x4F ∷ 0x4B ∷ 0 ∷ 1 ∷ 0 ∷ 1 ∷ 1 ∷ 0 ∷ 0 ∷ 0 ∷ suc n ∷ concat (list_below n on_the_way) ++ (0 ∷ suc n ∷ [])

-- a borrowed buffer of n bytes
abbrev pub lent : ℕ → List ℕ
lent n = replicate n 7

-- ---- findings
abbrev pub found_after : ℕ → History → Found
found_after r h = record { request = r; history = h }

abbrev pub no_findings : Findings
no_findings = record { conflict = none; missing = none; blocked = none }

abbrev pub conflict_after : ℕ → History → Findings
conflict_after r h = record { conflict = some (found_after r h); missing = none; blocked = none }

abbrev pub missing_after : ℕ → History → Findings
missing_after r h = record { conflict = none; missing = some (found_after r h); blocked = none }

abbrev pub missing_and_blocked_after : ℕ → History → Findings
missing_and_blocked_after r h = record { conflict = none; missing = some (found_after r h); blocked = some h }
