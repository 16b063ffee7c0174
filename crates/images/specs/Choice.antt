-- The greatest level among the rules of a set, and the sets of valuations that the rules of that level lead to, by arrays of one entry for each rule.
use Rattle.std.specs.Prelude.{◌≡◌, cond, true, ◌&&◌, List, ℕ, ◌<◌, max, eqb, ltb, length, get_or}
use Rattle.std.specs.Int.Bits.{bit_and}
use Rattle.automaton.specs.Below.{fold_below}
use Rattle.definitions.specs.Bytes.{bit}
use Rattle.definitions.specs.Situation.{empty_set, insert}
use Rattle.definitions.specs.Codes.{request_of, decision_of}
use Rattle.images.specs.declared.deciding.Choice.{Choice}
use Rattle.images.specs.declared.deciding.Rank.{Rank}

-- ---- the rank of a rule has its level and its decision

-- stands for the rank of a rule beyond the last
abbrev pub unranked : Rank
unranked = record { level = 0; decision = 0 }

abbrev pub level_at : List Rank → ℕ → ℕ
level_at ranks k = (get_or ranks k unranked).level

abbrev pub decision_at : List Rank → ℕ → ℕ
decision_at ranks k = (get_or ranks k unranked).decision

-- every rule of the set has its entries
abbrev pub Listed : ℕ → List Rank → List ℕ → Type 0
Listed fits ranks targets =
    (k : ℕ) → bit fits k ≡ true → (k < length ranks) × (k < length targets) × (get_or targets k 0 < 64)

-- ---- one rule more

-- the set, and the target if the decision is d
abbrev pub with_decided : ℕ → ℕ → ℕ → ℕ → ℕ
with_decided decision d target set = cond (eqb decision d) (insert target set) set

-- what a rule of this level leaves of where the rules of level `best` lead: nothing if its level is greater
abbrev pub kept : ℕ → ℕ → ℕ → ℕ
kept best level set = cond (ltb best level) empty_set set

-- and with where it leads itself, unless its level is lower
abbrev pub with_target : ℕ → ℕ → ℕ → ℕ → ℕ → ℕ → ℕ
with_target best level decision d target set = cond (ltb level best) set (with_decided decision d target (kept best level set))

-- ---- the first n rules

abbrev pub level_in : ℕ → List Rank → ℕ → ℕ
level_in fits ranks k = cond (bit fits k) (level_at ranks k) 0

abbrev pub with_most : (ℕ → ℕ) → ℕ → ℕ → ℕ
with_most f k most = max most (f k)

-- the greatest level of those in the set, 0 if there are none
abbrev pub greatest : ℕ → List Rank → ℕ → ℕ
greatest fits ranks n = fold_below n 0 (with_most (level_in fits ranks))

abbrev pub with_chosen : ℕ → List Rank → List ℕ → ℕ → ℕ → ℕ → ℕ → ℕ
with_chosen fits ranks targets best d k set =
    let more = insert (get_or targets k 0) set in
    cond (eqb (decision_at ranks k) d && (bit fits k && eqb (level_at ranks k) best)) more set

-- where those in the set of level `best` and decision d lead
abbrev pub chosen_by : ℕ → List Rank → List ℕ → ℕ → ℕ → ℕ → ℕ
chosen_by fits ranks targets n best d = fold_below n empty_set (with_chosen fits ranks targets best d)

-- where those in the set of the greatest level and decision d lead
abbrev pub leading : ℕ → List Rank → List ℕ → ℕ → ℕ → ℕ
leading fits ranks targets n d = chosen_by fits ranks targets n (greatest fits ranks n) d

abbrev pub Chosen : ℕ → List Rank → List ℕ → ℕ → Choice → Type 0
Chosen fits ranks targets n choice =
    (choice.best ≡ greatest fits ranks n) × (choice.accepted.set ≡ leading fits ranks targets n 1)
    × (choice.rejected.set ≡ leading fits ranks targets n 0)

-- the set for code c of the decided requests, counted from 0: entry r of `sets` has the rules that match request r
abbrev pub chosen_for : List ℕ → ℕ → List Rank → List ℕ → ℕ → ℕ
chosen_for sets enabled ranks targets c =
    leading (bit_and (get_or sets (request_of 0 c) 0) enabled) ranks targets (length ranks) (decision_of 0 c)
