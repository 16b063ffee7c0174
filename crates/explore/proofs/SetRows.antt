-- The row of the sets that the codes lead to, gathered valuation by valuation.
use mathlib.Core.Path.{◌≡◌, sym, ap, ◌∙◌}
use mathlib.Core.Bool.{false}
use mathlib.Core.List.{List}
use Prim.Native.Nat.{ℕ, ◌+◌, ◌<◌}
use native.Mathlib.Omega.{arith}
use lib.ListN.{length, get_or, replicate, length-replicate, get_or-replicate}
use lib.Seq.{ext_get_or}
use Rattle.automaton.proofs.Below.{length-list-below, get_or-list-below}
use Rattle.automaton.proofs.Congruence.{list-below-same}
use Rattle.automaton.proofs.Loops.{fold_more}
use Rattle.automaton.specs.Machine.{step}
use Rattle.definitions.specs.Bytes.{bit}
use Rattle.definitions.specs.Situation.{empty_set}
use Rattle.definitions.proofs.BookSteps.{is_state_law}
use Rattle.definitions.proofs.Steps.{step-next}
use Rattle.explore.specs.SetImages.{with_image_at, with_image_in, with_images, no_set, empty_sets, image_of_set_in, images_of_set, images_machine}

-- a row of nothing but the empty set
pub replicate-sets : (w : ℕ) → replicate w empty_set ≡ empty_sets w
replicate-sets w =
    ext_get_or 0 (replicate w empty_set) (empty_sets w) (length-replicate w empty_set ∙ sym (length-list-below no_set w))
    (λ c l. let inside : c < w = omega (arith, length-replicate w empty_set) in get_or-replicate w c empty_set 0 inside ∙ sym (get_or-list-below no_set w c 0 inside))

module _ (images : List ℕ) (w set : ℕ) where
  -- the images of a valuation that is not there are not put in
  module _ (v : ℕ) (sets : List ℕ) (long : length sets ≡ w) where
    pub images-out : bit set v ≡ false → sets ≡ with_images images w set v sets
    images-out e =
        ext_get_or 0 sets (with_images images w set v sets) (long ∙ sym (length-list-below (with_image_in images w set v sets) w))
        (λ c l.
        let inside : c < w = omega arith in
        sym (get_or-list-below (with_image_in images w set v sets) w c 0 inside ∙ rw e))

  -- one valuation more
  pub images_more : (v : ℕ) → with_images images w set v (images_of_set images v w set) ≡ images_of_set images (v + 1) w set
  images_more v =
      list-below-same (with_image_in images w set v (images_of_set images v w set)) (image_of_set_in images (v + 1) w set) w
      (λ c l.
      ap (with_image_at images w set c v) (get_or-list-below (image_of_set_in images v w set) w c 0 l) ∙ sym (fold_more (with_image_at images w set c) empty_set v))

  -- there is a set for each code
  pub row-long : (valuations : ℕ) {row : List ℕ} → row ≡ images_of_set images valuations w set → length row ≡ w
  row-long valuations is = ap length is ∙ length-list-below (image_of_set_in images valuations w set) w

  -- an entry of the row is a step
  pub row_step : (start valuations c : ℕ) {row : List ℕ} → 0 < set → row ≡ images_of_set images valuations w set → c < w
      → get_or row c 0 ≡ step (images_machine images valuations w start) set c
  row_step start valuations c state is l =
      ap (λ (row : List ℕ). get_or row c 0) is ∙ get_or-list-below (image_of_set_in images valuations w set) w c 0 l
      ∙ sym (step-next (images_machine images valuations w start) set c (is_state_law set state) l)
