-- A table of images, one row of w sets for each valuation, and the machine on situations that it gives with a start.
use Rattle.std.specs.Prelude.{cond, List, ℕ, ◌+◌, ◌*◌, length, get_or}
use Rattle.automaton.specs.Below.{fold_below, list_below}
use Rattle.automaton.specs.Machine.{Machine}
use Rattle.definitions.specs.Bytes.{bit}
use Rattle.definitions.specs.Situation.{empty_set, union}

-- the set that code c leads to from valuation v
abbrev pub image_at : List ℕ → ℕ → ℕ → ℕ → ℕ
image_at images w c v = get_or images (v * w + c) 0

abbrev pub with_image_at : List ℕ → ℕ → ℕ → ℕ → ℕ → ℕ → ℕ
with_image_at images w set c v found = let more = union found (image_at images w c v) in cond (bit set v) more found

-- the set that code c leads to from a set, whose valuations are below `valuations`
abbrev pub image_of_set_in : List ℕ → ℕ → ℕ → ℕ → ℕ → ℕ
image_of_set_in images valuations w set c = fold_below valuations empty_set (with_image_at images w set c)

-- ---- a row of sets, one for each code
abbrev pub no_set : ℕ → ℕ
no_set c = empty_set

abbrev pub empty_sets : ℕ → List ℕ
empty_sets w = list_below w no_set

abbrev pub union_at : List ℕ → List ℕ → ℕ → ℕ
union_at sets more c = union (get_or sets c 0) (get_or more c 0)

abbrev pub unions : List ℕ → List ℕ → List ℕ
unions sets more = list_below (length sets) (union_at sets more)

abbrev pub with_image_in : List ℕ → ℕ → ℕ → ℕ → List ℕ → ℕ → ℕ
with_image_in images w set v sets c = with_image_at images w set c v (get_or sets c 0)

-- the sets with the images of valuation v, if it is in the set
abbrev pub with_images : List ℕ → ℕ → ℕ → ℕ → List ℕ → List ℕ
with_images images w set v sets = list_below w (with_image_in images w set v sets)

-- the sets that the codes lead to from a set
abbrev pub images_of_set : List ℕ → ℕ → ℕ → ℕ → List ℕ
images_of_set images valuations w set = list_below w (image_of_set_in images valuations w set)

abbrev pub images_machine : List ℕ → ℕ → ℕ → ℕ → Machine
images_machine images valuations w start = record { width = w; start = start; next = image_of_set_in images valuations w }
