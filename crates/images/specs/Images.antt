-- What the arrays hold from which the images are filled, and the table of images.
use Rattle.std.specs.Prelude.{◌≡◌, List, ℕ, ◌+◌, ◌*◌, ◌/◌, ◌%◌, ◌<◌, ◌≤◌, length, get_or}
use Rattle.definitions.specs.Policy.{events, variables, rules, requests, width, rule, decision, level, change, event_change}
use Rattle.definitions.specs.Valuation.{bound, valuations, variable_in}
use Rattle.definitions.specs.Situation.{empty_set, insert, image}
use Rattle.policy.specs.Sized.{Passed}
use Rattle.rules.specs.Arrays.{Tabled}
use Rattle.rules.specs.RuleSets.{matching}
use Rattle.rules.specs.Changes.{carried_by}
use Rattle.images.specs.Choice.{unranked}
use Rattle.images.specs.declared.deciding.Rank.{Rank}

-- the level and the decision of rule k
abbrev pub rule_rank : List ℕ → ℕ → Rank
rule_rank p k = record { level = level p (rule p k); decision = decision p (rule p k) }

-- an array of the ranks of the rules
pub record Ranked (p : List ℕ) (ranks : List Rank) : Type 0 where
  pub room : rules p ≤ length ranks
  pub entry : (k : ℕ) → k < rules p → get_or ranks k unranked ≡ rule_rank p k

-- ---- where rules and events lead from the values x of the variables. At the values of valuation v these are by_rule and event_image
abbrev pub rule_target : List ℕ → (ℕ → ℕ) → ℕ → ℕ
rule_target p x k = carried_by p (change p (rule p k)) x

abbrev pub event_from : List ℕ → (ℕ → ℕ) → ℕ → ℕ
event_from p x e = insert (carried_by p (event_change p e) x) empty_set

-- what is made once for all valuations: the arrays of the bounds, of the rules that match each request, and of the ranks of the rules
pub record Prepared (p bounds sets : List ℕ) (ranks : List Rank) : Type 0 where
  pub passed : Passed p
  pub bounded : Tabled (variables p) (bound p) bounds
  pub counted : length sets ≡ requests p
  pub matched : Tabled (requests p) (matching p) sets
  pub ranked : Ranked p ranks

-- ---- the images

-- those from valuation v, by code
abbrev pub image_from : List ℕ → ℕ → ℕ → ℕ
image_from p v c = image p c v

-- those of the decided requests, by code counted from 0, where the array has the values of the variables in v
abbrev pub decided_from : List ℕ → ℕ → ℕ → ℕ
decided_from p v c = image p (events p + c) v

abbrev pub DecidedBy : List ℕ → List ℕ → List ℕ → Type 0
DecidedBy p values row = (v : ℕ) → Tabled (variables p) (variable_in p v) values → Tabled (2 * requests p) (decided_from p v) row

-- entry v × w + c of the table of images
abbrev pub image_entry : List ℕ → ℕ → ℕ
image_entry p i = image p (i % width p) (i / width p)

-- the table has the image of each valuation under each code
abbrev pub ImagesOf : List ℕ → List ℕ → Type 0
ImagesOf p images = (v c : ℕ) → v < valuations p → c < width p → get_or images (v * width p + c) 0 ≡ image p c v
