-- What the tests of rows 12 and 13 say of the size of a book.
use mathlib.Core.Path.{◌≡◌}
use mathlib.Core.Bool.{true}
use mathlib.Core.List.{List}
use Prim.Native.Nat.{ℕ, ◌*◌, ◌≤◌}
use native.Mathlib.Nat.{mul-le-mul}
use native.Mathlib.Omega.{arith}
use Rattle.definitions.specs.Book.{width, states}
use Rattle.definitions.specs.Refusal.{layout_holds}
use Rattle.definitions.specs.Checked.{BookHeader}
use Rattle.definitions.proofs.Accepted.{header-true, layout-true}

-- row 13 by its tests
pub ruleset row_13 = (header-true, layout-true)

module _ (b : List ℕ) where
  -- w is at least 1
  pub layout-wide : layout_holds b ≡ true → 1 ≤ width b
  layout-wide e = let some = (layout-true b e).header.requests_some in omega arith

  module _ (n w : ℕ) (hn : n ≡ states b) (hw : w ≡ width b) where
    -- n × w is small
    pub size_fits : BookHeader b → n * w ≤ 127 * 136
    size_fits h = rw (hn, hw) (mul-le-mul {m₂ = 136} h.states_most h.width_most)
