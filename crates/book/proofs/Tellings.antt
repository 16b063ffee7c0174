-- What a state tells of a request, from the request's two entries as the code tests them.
use mathlib.Core.Path.{◌≡◌}
use mathlib.Core.Bool.{not}
use mathlib.Core.List.{List}
use Prim.Native.Nat.{ℕ, ◌+◌, ◌*◌, ◌≤◌, ◌<◌}
use native.Mathlib.Omega.{arith}
use lib.Dec.{eqb}
use Rattle.definitions.specs.Book.{events, requests, entry}
use Rattle.definitions.specs.Telling.{to_telling, telling}
use Rattle.definitions.proofs.BookSteps.{state-test, step-is-entry}

pub telling-by : (b : List ℕ) (s r e x y : ℕ) → 1 ≤ s → r < requests b → e ≡ events b → x ≡ entry b s (e + 2 * r) → y ≡ entry b s (e + 2 * r + 1)
    → to_telling (not (eqb x 0)) (not (eqb y 0)) ≡ telling b s r
unfolding telling
telling-by b s r e x y some low he hx hy =
    rw (state-test x, state-test y, hx, hy, he, step-is-entry b s (events b + 2 * r) some (omega arith), step-is-entry b s (events b + 2 * r + 1) some (omega arith))
