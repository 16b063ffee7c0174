-- Two rows read side by side by the labels of their entries: entry x of the first row has the label at x, entry y of the second that at base + y.
use Rattle.std.specs.Prelude.{◌≡◌, List, ℕ, ◌+◌, ◌<◌, length, get_or}
use Rattle.comparelabels.specs.LabelBytes.{label_at}

-- rows of one width whose entries all have labels, with one label for entry 0 of either row
pub record RowPair (one other : List ℕ) (base : ℕ) (label : List ℕ) : Type 0 where
  pub width : length other ≡ length one
  pub some : 0 < length label
  pub first : (k : ℕ) → k < length one → get_or one k 0 < length label
  pub second : (k : ℕ) → k < length one → base + get_or other k 0 < length label
  pub none : label_at label 0 ≡ label_at label (base + 0)

-- the entries at place k have one label
abbrev pub SameLabel : List ℕ → List ℕ → ℕ → List ℕ → ℕ → Type 0
SameLabel one other base label k = label_at label (get_or one k 0) ≡ label_at label (base + get_or other k 0)
