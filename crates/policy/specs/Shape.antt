-- The numbers of a policy file, as the code keeps them.
use Rattle.std.specs.Prelude.{List, ℕ}
use Rattle.definitions.specs.Policy.{events, requests, width}
use Rattle.definitions.specs.Valuation.{valuations, start_valuation}
use Rattle.policy.specs.declared.shape.Shape.{Shape}

abbrev pub shape_of : List ℕ → Shape
shape_of p = record { events = events p; requests = requests p; width = width p; valuations = valuations p; start = start_valuation p }
