-- The policy file p, field by field off its bytes, as document 01's section "Policy file" and requests 2 and 5 of document 02 have it.
use Rattle.std.specs.Prelude.{cond, List, ◌∷◌, ℕ, suc, ◌+◌, ◌-◌, ◌*◌, ◌/◌, ◌%◌, ltb, eqb, drop}
use Rattle.automaton.specs.Below.{fold_below, list_below}
use Rattle.definitions.specs.Bytes.{byte, two_bytes, version, product}

-- ---- "1 each: E events 0 to 8; F fields 1 to 4; P variables 0 to 4; R rules", by request 5 "0 to 32"
abbrev pub events : List ℕ → ℕ
events p = byte p 5

abbrev pub fields : List ℕ → ℕ
fields p = byte p 6

abbrev pub variables : List ℕ → ℕ
variables p = byte p 7

abbrev pub rules : List ℕ → ℕ
rules p = byte p 8

-- "values in each field"
abbrev pub count : List ℕ → ℕ → ℕ
count p f = byte p (9 + f)

-- "their product Q, the number of requests"
abbrev pub requests : List ℕ → ℕ
requests p = product (fields p) (count p)

-- "w = E + 2Q"
abbrev pub width : List ℕ → ℕ
width p = events p + 2 * requests p

-- "The frame is E, F and the value counts", laid out as in a book: "four value counts (0 for absent fields)"
abbrev pub present_count : List ℕ → ℕ → ℕ
present_count p f = cond (ltb f (fields p)) (count p f) 0

abbrev pub frame : List ℕ → List ℕ
frame p = events p ∷ fields p ∷ list_below 4 (present_count p)

-- ---- "Version 2 of the policy file carries, after the value counts, one starting value for each variable"

-- how many starting values the file carries: version 1 none
abbrev pub starts : List ℕ → ℕ
starts p = cond (eqb (version p) 2) (variables p) 0

-- the starting value of variable j: "Version 1 files read as all zeros"
abbrev pub starting_value : List ℕ → ℕ → ℕ
starting_value p j = cond (eqb (version p) 2) (byte p (9 + fields p + j)) 0

-- ---- the records: "F masks of 2 bytes, decision, level, then for each variable 3 bytes: ge, lt, change"
abbrev pub rule_size : List ℕ → ℕ
rule_size p = 2 * fields p + 2 + 3 * variables p

-- "The table of rules is handed on as the part that begins after the value counts", and in version 2 after the starting values
abbrev pub rule_table : List ℕ → List ℕ
rule_table p = drop (9 + fields p + starts p) p

-- rule k: the part of the table that begins with its record
abbrev pub rule : List ℕ → ℕ → List ℕ
rule p k = drop (k * rule_size p) (rule_table p)

-- "one change byte for each variable", in the records after the last rule
abbrev pub event_change : List ℕ → ℕ → ℕ → ℕ
event_change p e j = byte (rule p (rules p)) (e * variables p + j)

-- "The length is exactly 9 + F + R × (2F + 2 + 3P) + E × P"; in version 2 "The length grows by P"
abbrev pub exact_length : List ℕ → ℕ
exact_length p = 9 + fields p + starts p + rules p * rule_size p + events p * variables p

-- ---- a rule of p, given as the part q that begins with its record
abbrev pub mask : List ℕ → ℕ → ℕ
mask q f = two_bytes q (2 * f)

abbrev pub decision : List ℕ → List ℕ → ℕ
decision p q = byte q (2 * fields p)

abbrev pub level : List ℕ → List ℕ → ℕ
level p q = byte q (2 * fields p + 1)

abbrev pub ge : List ℕ → List ℕ → ℕ → ℕ
ge p q j = byte q (2 * fields p + 2 + 3 * j)

abbrev pub lt : List ℕ → List ℕ → ℕ → ℕ
lt p q j = byte q (2 * fields p + 3 + 3 * j)

abbrev pub change : List ℕ → List ℕ → ℕ → ℕ
change p q j = byte q (2 * fields p + 4 + 3 * j)

-- ---- requests: "one value for each field; its number r starts at 0 and comes from r = first value, then for each later field r × (its count) + value"
abbrev pub with_value : List ℕ → (ℕ → ℕ) → ℕ → ℕ → ℕ
with_value p values f r = r * count p f + values f

abbrev pub request_number : List ℕ → (ℕ → ℕ) → ℕ
request_number p values = fold_below (fields p) 0 (with_value p values)

-- how many requests have the same values in field f and those before it: the product of the later counts
abbrev pub later_count : List ℕ → ℕ → ℕ → ℕ
later_count p f i = count p (suc f + i)

abbrev pub stride : List ℕ → ℕ → ℕ
stride p f = product (fields p - suc f) (later_count p f)

-- the value of field f in request r
abbrev pub value : List ℕ → ℕ → ℕ → ℕ
value p r f = r / stride p f % count p f
