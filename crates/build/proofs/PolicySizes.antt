-- The sizes of a policy that no row before row 11 refuses.
use mathlib.Core.Path.{◌≡◌}
use mathlib.Core.List.{List}
use Prim.Native.Nat.{ℕ, min, ◌+◌, ◌-◌, ◌*◌, ◌^◌, ◌≤◌, ◌<◌}
use native.Mathlib.Omega.{arith}
use native.Mathlib.Nat.{min-le_left, mul-le-mul, mul-le-mul_right}
use lib.ListN.{length}
use lib.Pow.{pow_mono}
use Rattle.definitions.specs.Policy.{fields, width}
use Rattle.definitions.specs.Valuation.{valuations, start_valuation}
use Rattle.definitions.specs.Situation.{start_situation}
use Rattle.definitions.specs.Refusal.{file_refusal, situations}
use Rattle.automaton.proofs.Machine.{state-is}
use Rattle.definitions.proofs.Valuations.{start-valuation-below}
use Rattle.definitions.proofs.Steps.{start-is-state, situations-few}
use Rattle.policy.specs.declared.shape.Shape.{Shape}
use Rattle.policy.specs.Shape.{shape_of}
use Rattle.policy.specs.Sized.{Passed}
use Rattle.policy.proofs.PassedFile.{passed}
use Rattle.build.specs.Room.{RoomFor}

module _ (p : List ℕ) (e : file_refusal p ≡ 0) where
  pub has-passed : Passed p
  has-passed = passed p e

  pub width_low : width p ≤ 136
  width_low = omega (arith, has-passed.sized.few_events, has-passed.few_requests)

  pub valuations-low : valuations p ≤ 64
  valuations-low = has-passed.few_valuations

  pub start-low : start_valuation p < 64
  start-low = omega (arith, start-valuation-below p, valuations-low)

  pub start-some : 1 ≤ start_situation p
  start-some = state-is (start_situation p) (start-is-state p)

  rows_fit : 127 * width p ≤ 17272
  rows_fit = omega (arith, width_low)

  pub book-fits : (n : ℕ) → n ≤ 127 → 12 + n * width p ≤ 17284
  book-fits n l = omega (arith, mul-le-mul_right (width p) l, rows_fit)

  pub header_read : (9 ≤ length p) × (9 + fields p ≤ length p)
  header_read =
      let exact = has-passed.sized.exact in
      (omega arith, omega arith)

-- ---- the room to work in, by the numbers that are kept beside the file
module _ (p : List ℕ) (s : Shape) (file : file_refusal p ≡ 0) (numbers : s ≡ shape_of p) where
  pub width_most_law : s.width ≤ 136
  width_most_law = rw numbers (width_low p file)

  -- for at most w codes: 127 rows, and as many images as there are, or 64 of each code
  pub room-by_images : (w images : ℕ) → s.width ≤ w → s.valuations * s.width ≤ images → RoomFor p s images (127 * w)
  room-by_images w images l fits = (fits, mul-le-mul (min-le_left 127 (length (situations p))) l)

  pub room-by_codes : (w : ℕ) → s.width ≤ w → RoomFor p s (64 * w) (127 * w)
  room-by_codes w l = room-by_images w (64 * w) l (mul-le-mul (rw numbers (valuations-low p file)) l)

  -- for at most v valuations besides: their sets but the empty one are all the situations that there can be
  pub room-by-valuations : (v w : ℕ) → s.valuations ≤ v → s.width ≤ w → RoomFor p s (v * w) ((2 ^ v - 1) * w)
  room-by-valuations v w few l = (mul-le-mul few l, mul-le-mul sets l)
    where
      all : 2 ^ valuations p ≤ 2 ^ v
      all = pow_mono (rw numbers at few)

      sets : min 127 (length (situations p)) ≤ 2 ^ v - 1
      sets = omega (arith, situations-few p, all)
