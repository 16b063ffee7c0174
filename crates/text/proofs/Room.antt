-- A text at the front of a buffer, with room for it or not.
use mathlib.Core.Path.{◌≡◌, refl, ◌∙◌}
use mathlib.Core.List.{List}
use Prim.Native.Nat.{ℕ, ◌+◌, ◌≤◌, ◌<◌}
use native.Mathlib.Omega.{arith}
use lib.ListN.{length}
use lib.Seq.{sets-eq}
use borrow.Author.Tests.{le-leb, lt-leb}
use Rattle.definitions.specs.Answer.{written}
use Rattle.text.specs.Put.{Put}
use Rattle.text.specs.Room.{length_within, written_within}

pub front : {before text after : List ℕ} {next : ℕ} → Put before 0 text after next → next ≤ length before → after ≡ written text before
front {before} {text} p fits =
    let e : 0 + length text ≡ length text = omega arith in
    p.stored ∙ sets-eq text before 0 (omega arith) ∙ rw e

module _ (room : ℕ) (text out : List ℕ) where
  pub too_short : length out < room → (0 ≡ length_within room text out) × ((out ≡ written_within room text out) × (0 ≤ length out))
  too_short l = rw (lt-leb room (length out) l) (refl, (refl, omega arith))

  pub long-enough : {after : List ℕ} {r : ℕ} → room ≤ length out → r ≤ room → Put out 0 text after r
      → (r ≡ length_within room text out) × ((after ≡ written_within room text out) × (r ≤ length out))
  long-enough l m p = rw (le-leb room (length out) l) (omega (arith, p.ends), (front p (omega arith), omega arith))
