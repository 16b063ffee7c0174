-- "Where input is turned down": the number of the first row that fits, 0 if none does. Rows are judged in the order of document 01 and, for 17, of request 2,
-- each only where those before it do not fit.
use Rattle.std.specs.Prelude.{◌≡◌, Bool, cond, ◌&&◌, ◌||◌, List, [], ◌∷◌, ℕ, suc, ◌+◌, ◌*◌, ◌^◌, leb, ltb, eqb, length}
use Rattle.automaton.specs.Below.{all_below, same_list}
use Rattle.automaton.specs.Explore.{Reached, reached}
use Rattle.definitions.specs.Answer.{judge, then_judge, Check, row, refusal_by}
use Rattle.definitions.specs.Bytes.{has_mark, version, within}
use Rattle.definitions.specs.Policy.{events, fields, variables, rules, count, requests, starting_value, exact_length, rule, mask, decision, ge, lt, change, event_change}
use Rattle.definitions.specs.Valuation.{valuations}
use Rattle.definitions.specs.Situation.{policy_machine}
use Rattle.definitions.specs.Book as B

-- ---- policies: rows 2 to 11 and 17

abbrev pub has_head : List ℕ → Bool
has_head p = leb 9 (length p)

-- "4 now means neither 1 nor 2"
abbrev pub version_holds : List ℕ → Bool
version_holds p = eqb (version p) 1 || eqb (version p) 2

-- "Number 5 now lets R be 0 to 32; its other ranges stand"
abbrev pub ranges_hold : List ℕ → Bool
ranges_hold p = leb (events p) 8 && within 1 (fields p) 4 && leb (variables p) 4 && leb (rules p) 32

abbrev pub length_holds : List ℕ → Bool
length_holds p = eqb (length p) (exact_length p)

abbrev pub count_in_range : List ℕ → ℕ → Bool
count_in_range p f = within 1 (count p f) 16

abbrev pub counts_hold : List ℕ → Bool
counts_hold p = all_below (fields p) (count_in_range p) && leb (requests p) 64

-- "one starting value for each variable, 0 to 63"
abbrev pub start_holds : List ℕ → ℕ → Bool
start_holds p j = leb (starting_value p j) 63

abbrev pub starts_hold : List ℕ → Bool
starts_hold p = all_below (variables p) (start_holds p)

-- a test of rules, each given as the part that begins with its record: rule k passes, and every rule does
abbrev pub rule_passes : List ℕ → (List ℕ → Bool) → ℕ → Bool
rule_passes p test k = test (rule p k)

abbrev pub all_rules : List ℕ → (List ℕ → Bool) → Bool
all_rules p test = all_below (rules p) (rule_passes p test)

-- "A mask has at least one bit set and none at or above its field's count"
abbrev pub mask_holds : List ℕ → List ℕ → ℕ → Bool
mask_holds p q f = leb 1 (mask q f) && ltb (mask q f) (2 ^ count p f)

abbrev pub rule_masks_hold : List ℕ → List ℕ → Bool
rule_masks_hold p q = all_below (fields p) (mask_holds p q)

abbrev pub masks_hold : List ℕ → Bool
masks_hold p = all_rules p (rule_masks_hold p)

-- "decision (0 reject, 1 accept)"; "ge and lt are 0 to 63"; "Change is 0 none, 1 add one, 2 set to zero"
abbrev pub test_holds : List ℕ → List ℕ → ℕ → Bool
test_holds p q j = leb (ge p q j) 63 && leb (lt p q j) 63 && leb (change p q j) 2

abbrev pub rule_holds : List ℕ → List ℕ → Bool
rule_holds p q = leb (decision p q) 1 && all_below (variables p) (test_holds p q)

abbrev pub event_change_holds : List ℕ → ℕ → ℕ → Bool
event_change_holds p e j = leb (event_change p e j) 2

abbrev pub event_holds : List ℕ → ℕ → Bool
event_holds p e = all_below (variables p) (event_change_holds p e)

abbrev pub values_hold : List ℕ → Bool
values_hold p = all_rules p (rule_holds p) && all_below (events p) (event_holds p)

abbrev pub valuations_hold : List ℕ → Bool
valuations_hold p = leb (valuations p) 64

-- the rows that judge what the file holds, once its length is right
abbrev pub content_checks : List Check
content_checks =
    -- "a value count outside 1 to 16, or Q over 64"
    row 7 counts_hold
    -- "a start above 63, judged after 7 and before 8"
    ∷ row 17 starts_hold
    -- "a mask"
    ∷ row 8 masks_hold
    -- "a decision, test or change outside its values"
    ∷ row 9 values_hold
    -- "over 64 valuations"
    ∷ row 10 valuations_hold
    ∷ []

-- the rows that judge the file itself
abbrev pub file_checks : List Check
file_checks =
    -- "policy under 9 bytes"
    row 2 has_head
    -- "mark" POL
    ∷ row 3 (has_mark 0x50 0x4F 0x4C)
    -- "version"
    ∷ row 4 version_holds
    -- "E, F, P or R outside its range"
    ∷ row 5 ranges_hold
    -- "length"
    ∷ row 6 length_holds
    ∷ content_checks

unfoldable pub file_refusal : List ℕ → ℕ
file_refusal p = refusal_by file_checks p

-- the situations reached, "before joining alike ones", in the order of their earliest history: all of them if they are at most 127
unfoldable pub situations : List ℕ → List Reached
situations p = reached (policy_machine p) 127

-- "over 127 situations reached"
unfoldable pub row11 : List ℕ → ℕ
unfolding situations
row11 p = judge 11 (leb (length (situations p)) 127) 0

-- rows 2 to 11 and 17. "A policy is accepted if no number but 1 turns it down"
unfoldable pub policy_refusal : List ℕ → ℕ
unfolding file_refusal row11
policy_refusal p = then_judge (file_refusal p) (row11 p)

abbrev pub Accepted : List ℕ → Type 0
Accepted p = policy_refusal p ≡ 0

-- ---- books: rows 12 to 14

-- the length of the header, the mark BOK and the version
abbrev pub is_marked : List ℕ → Bool
is_marked b = leb 12 (length b) && has_mark 0x42 0x4F 0x4B b && eqb (version b) 1

-- "a present count outside its range; an absent count not 0"
abbrev pub count_holds : List ℕ → ℕ → Bool
count_holds b f = cond (ltb f (B.fields b)) (within 1 (B.count b f) 16) (eqb (B.count b f) 0)

-- "E, F, a present count, Q or n outside its range; an absent count not 0"
abbrev pub header_holds : List ℕ → Bool
header_holds b = leb (B.events b) 8 && within 1 (B.fields b) 4 && all_below 4 (count_holds b) && leb (B.requests b) 64 && within 1 (B.states b) 127

-- the header, and "length not 12 + n × w"
abbrev pub layout_holds : List ℕ → Bool
layout_holds b = header_holds b && eqb (length b) (12 + B.states b * B.width b)

-- entry c of row s is at most n, and not 0 for an event
abbrev pub entry_holds : List ℕ → ℕ → ℕ → Bool
entry_holds b s c = leb (B.entry b s c) (B.states b) && (leb (B.events b) c || leb 1 (B.entry b s c))

-- row i, counted from 0, which is that of state i + 1
abbrev pub row_holds : List ℕ → ℕ → Bool
row_holds b i = all_below (B.width b) (entry_holds b (suc i))

abbrev pub entries_hold : List ℕ → Bool
entries_hold b = all_below (B.states b) (row_holds b)

abbrev pub book_checks : List Check
book_checks =
    -- "book under 12 bytes, mark or version"
    row 12 is_marked
    -- "E, F, a present count, Q or n outside its range; an absent count not 0; length not 12 + n × w"
    ∷ row 13 layout_holds
    -- "an entry above n, or 0 for an event"
    ∷ row 14 entries_hold
    ∷ []

unfoldable pub book_refusal : List ℕ → ℕ
book_refusal b = refusal_by book_checks b

-- "the two frames differ"
unfoldable pub row15 : List ℕ → List ℕ → ℕ
row15 b d = judge 15 (same_list (B.frame b) (B.frame d)) 0
