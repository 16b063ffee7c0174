-- The room that the functions that build work in.
use Rattle.std.specs.Prelude.{List, ℕ, min, ◌*◌, ◌≤◌, length}
use Rattle.definitions.specs.Refusal.{situations}
use Rattle.policy.specs.declared.shape.Shape.{Shape}

-- so many words for the images and so many bytes for the rows: for the images of all valuations, and for the rows of the situations, at most 127
abbrev pub RoomFor : List ℕ → Shape → ℕ → ℕ → Type 0
RoomFor p shape images raw = (shape.valuations * shape.width ≤ images) × (min 127 (length (situations p)) * shape.width ≤ raw)
