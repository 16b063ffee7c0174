-- A table of the images of a policy gives the policy's machine: the same situations are reached, and with the same table.
use mathlib.Core.Path.{◌≡◌, refl, ap}
use mathlib.Core.Bool.{Bool, cond, true, false}
use mathlib.Core.List.{List}
use Prim.Native.Nat.{ℕ, zero, suc, ◌<◌}
use lib.Dec.{ltb}
use borrow.Author.Tests.{ltb-true}
use Rattle.automaton.specs.Machine.{Machine, step}
use Rattle.automaton.specs.Explore.{Reached, reached}
use Rattle.automaton.specs.Table.{table}
use Rattle.definitions.specs.Bytes.{bit}
use Rattle.definitions.specs.Policy.{width}
use Rattle.definitions.specs.Valuation.{valuations}
use Rattle.definitions.specs.Situation.{start_situation, union, with_image, image_of_set, policy_machine}
use Rattle.images.specs.Images.{ImagesOf}
use Rattle.explore.specs.SetImages.{with_image_at, image_of_set_in, images_machine}
use Rattle.automaton.proofs.Congruence.{fold_below-same, reached-same, table_same}

module _ (p images : List ℕ) (are : ImagesOf p images) where
  abbrev m : Machine
  m = images_machine images (valuations p) (width p) (start_situation p)

  next-same : (set c : ℕ) → c < width p → image_of_set_in images (valuations p) (width p) set c ≡ image_of_set p set c
  next-same set c l =
      fold_below-same (with_image_at images (width p) set c) (with_image p set c) 0 (valuations p)
      (λ v found b. ap (λ (more : ℕ). cond (bit set v) (union found more) found) (are v c b l))

  step_same : (s c : ℕ) → step m s c ≡ step (policy_machine p) s c
  step_same zero c = refl
  step_same (suc s) c = go (ltb c (width p)) refl
    where
      go : (b : Bool) → ltb c (width p) ≡ b → cond b (image_of_set_in images (valuations p) (width p) (suc s) c) 0 ≡ cond b (image_of_set p (suc s) c) 0
      go true e = next-same (suc s) c (ltb-true c (width p) e)
      go false e = refl

  pub reached-policy : (most : ℕ) → reached m most ≡ reached (policy_machine p) most
  reached-policy = reached-same m (policy_machine p) refl refl step_same

  pub table-policy : (found : List Reached) → table m found ≡ table (policy_machine p) found
  table-policy = table_same m (policy_machine p) refl refl step_same
