-- The start of a policy has the one valuation in which each variable has its starting value, or its bound where that is less.
use mathlib.Core.Path.{◌≡◌, sym, ◌∙◌}
use mathlib.Core.Logic.{◌↔◌}
use mathlib.Core.List.{List}
use Prim.Native.Nat.{ℕ, ◌<◌}
use borrow.Author.Tests.{ne_eqb}
use Rattle.definitions.specs.Bytes.{version}
use Rattle.definitions.specs.Policy.{variables}
use Rattle.definitions.specs.Valuation.{valuations, initial_value, start_valuation, variable_in}
use Rattle.definitions.specs.Situation.{start_situation}
use Rattle.definitions.specs.Demands.{StartIsRight}
use Rattle.definitions.proofs.Valuations.{valuations-same, start-valuation-below, variable_start}
use Rattle.definitions.proofs.Sets.{Has, start_has}

module _ (p : List ℕ) where
  valuation-is : (v : ℕ) → v < valuations p → Has (start_situation p) v ↔ ((j : ℕ) → j < variables p → variable_in p v j ≡ initial_value p j)
  valuation-is v l = (into, back)
    where
      into : Has (start_situation p) v → (j : ℕ) → j < variables p → variable_in p v j ≡ initial_value p j
      into h j b = rw ((start_has p v).0 h) (variable_start p j b)

      back : ((j : ℕ) → j < variables p → variable_in p v j ≡ initial_value p j) → Has (start_situation p) v
      back h = (start_has p v).1 (valuations-same p v (start_valuation p) l (start-valuation-below p) (λ j b. h j b ∙ sym (variable_start p j b)))

  pub start_right : StartIsRight p
  start_right = record { valuation = valuation-is; zeros = λ other j. rw (ne_eqb (version p) 2 other) }
