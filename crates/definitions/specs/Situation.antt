-- Which rules apply, situations, and where the steps lead, as document 01's section "Situations" has it. A policy is a machine on situations.
use Rattle.std.specs.Prelude.{Bool, cond, true, not, ◌&&◌, List, ℕ, zero, suc, ◌^◌, leb, ltb, eqb}
use Rattle.std.specs.Int.Bits.{bit_or}
use Rattle.automaton.specs.Below.{all_below, any_below, fold_below}
use Rattle.automaton.specs.Machine.{Machine}
use Rattle.definitions.specs.Bytes.{bit}
use Rattle.definitions.specs.Policy.{events, fields, variables, rules, width, rule, mask, decision, level, ge, lt, value}
use Rattle.definitions.specs.Valuation.{valuations, start_valuation, variable_in, by_rule, by_event}
use Rattle.definitions.specs.Codes.{request_of, decision_of}

-- ---- "A rule applies to request r in a valuation if its masks let r through, its tests are true there, and no rule of a greater level fits both"

-- "Bit v of a mask lets value v through"
abbrev pub mask_lets : List ℕ → List ℕ → ℕ → ℕ → Bool
mask_lets p q r f = bit (mask q f) (value p r f)

abbrev pub lets_through : List ℕ → List ℕ → ℕ → Bool
lets_through p q r = all_below (fields p) (mask_lets p q r)

-- "variable < lt", where "0 means no such test"
abbrev pub is_below : ℕ → ℕ → Bool
is_below x zero = true
is_below x (suc most) = ltb x (suc most)

-- "0 means no such test; else they mean variable ≥ ge and variable < lt"; every variable is at least 0
abbrev pub test_passes : List ℕ → List ℕ → ℕ → ℕ → Bool
test_passes p q v j = leb (ge p q j) (variable_in p v j) && is_below (variable_in p v j) (lt p q j)

-- the rule is enabled: "A rule whose tests contradict each other is legal and never enabled"
abbrev pub enabled : List ℕ → List ℕ → ℕ → Bool
enabled p q v = all_below (variables p) (test_passes p q v)

abbrev pub fits : List ℕ → List ℕ → ℕ → ℕ → Bool
fits p q r v = lets_through p q r && enabled p q v

-- rule i is of a greater level than rule q, and fits both
abbrev pub outranks : List ℕ → List ℕ → ℕ → ℕ → ℕ → Bool
outranks p q r v i = ltb (level p q) (level p (rule p i)) && fits p (rule p i) r v

abbrev pub outranked : List ℕ → List ℕ → ℕ → ℕ → Bool
outranked p q r v = any_below (rules p) (outranks p q r v)

abbrev pub applies : List ℕ → List ℕ → ℕ → ℕ → Bool
applies p q r v = fits p q r v && not (outranked p q r v)

-- ---- "A situation is a non-empty set of valuations": a number in which bit v says that valuation v is in the set. 0, the empty set, is "not possible"
abbrev pub empty_set : ℕ
empty_set = 0

abbrev pub insert : ℕ → ℕ → ℕ
insert v set = bit_or set (2 ^ v)

abbrev pub union : ℕ → ℕ → ℕ
union a b = bit_or a b

-- "The situation type has its own start and its own empty test"
abbrev pub start_situation : List ℕ → ℕ
start_situation p = insert (start_valuation p) empty_set

abbrev pub is_empty : ℕ → Bool
is_empty set = eqb set empty_set

-- ---- "An event maps every valuation by its changes"
abbrev pub event_image : List ℕ → ℕ → ℕ → ℕ
event_image p e v = insert (by_event p e v) empty_set

-- rule k has decision d and applies to r in v
abbrev pub decides : List ℕ → ℕ → ℕ → ℕ → ℕ → Bool
decides p r d v k = eqb (decision p (rule p k)) d && applies p (rule p k) r v

-- "all valuations got by carrying out, in each valuation, every rule with decision d that applies to r there": those got in v
abbrev pub with_rule : List ℕ → ℕ → ℕ → ℕ → ℕ → ℕ → ℕ
with_rule p r d v k set = let more = insert (by_rule p k v) set in cond (decides p r d v k) more set

abbrev pub request_image : List ℕ → ℕ → ℕ → ℕ → ℕ
request_image p r d v = fold_below (rules p) empty_set (with_rule p r d v)

-- ---- steps

-- the valuations that code c leads to from valuation v
abbrev pub image : List ℕ → ℕ → ℕ → ℕ
image p c v =
    let by_an_event = event_image p c v in
    let by_a_request = request_image p (request_of (events p) c) (decision_of (events p) c) v in
    cond (ltb c (events p)) by_an_event by_a_request

-- the valuations that code c leads to from a set: from each of its valuations
abbrev pub with_image : List ℕ → ℕ → ℕ → ℕ → ℕ → ℕ
with_image p set c v images = let more = union images (image p c v) in cond (bit set v) more images

abbrev pub image_of_set : List ℕ → ℕ → ℕ → ℕ
image_of_set p set c = fold_below (valuations p) empty_set (with_image p set c)

-- "if that set is empty, the step is not possible": the policy as a machine
abbrev pub policy_machine : List ℕ → Machine
policy_machine p = record { width = width p; start = start_situation p; next = image_of_set p }
