-- Loops that look for the lowest number below a bound that passes a test.
use mathlib.Core.Path.{◌≡◌, refl, sym, ◌∙◌}
use mathlib.Core.Bool.{Bool, true, false, true≢false}
use Prim.Native.Nat.{ℕ, ◌≤◌, ◌<◌}
use native.Mathlib.Decide.{dec_lt}
use native.Mathlib.Omega.{arith}
use Rattle.std.specs.Prelude.{Option, None, Some, is_some}
use Rattle.automaton.specs.Below.{any_below, lowest_below}
use Rattle.findings.specs.SoughtRequests.{IsLowest}
use Rattle.automaton.proofs.Below.{any_below_law, any_below_at, lowest_below_law, lowest-below_le}

-- the numbers below k do not pass
abbrev pub NoneBelow : (ℕ → Bool) → ℕ → Type 0
NoneBelow f k = (j : ℕ) → j < k → f j ≡ false

module _ (f : ℕ → Bool) (n k : ℕ) (none : NoneBelow f k) where
  passed_over : k ≤ n → k ≤ lowest_below n f
  passed_over l = go (dec_lt (lowest_below n f) k)
    where
      go : Dec (lowest_below n f < k) → k ≤ lowest_below n f
      go (yes b) = absurd (true≢false (sym ((lowest_below_law f n).passes (omega arith)) ∙ none (lowest_below n f) b))
      go (no b) = omega arith

  pub lowest_hit : k < n → f k ≡ true → k ≡ lowest_below n f
  lowest_hit l e = omega (arith, passed_over (omega arith), lowest-below_le f n k l e)

  pub lowest-end : n ≤ k → k ≤ n → lowest_below n f ≡ n
  lowest-end b l = omega (arith, passed_over l, (lowest_below_law f n).within)

  pub any_end : n ≤ k → any_below n f ≡ false
  any_end b = go (any_below n f) (λ e. any_below_at f n e)
    where
      go : (t : Bool) → (t ≡ true → (j : ℕ) × (j < n) × (f j ≡ true)) → t ≡ false
      go true hit = let r = hit refl in absurd (true≢false (sym r.2 ∙ none r.0 (omega (arith, r.1))))
      go false hit = refl

-- the lowest number, as a loop finds it
module _ (f : ℕ → Bool) (n : ℕ) where
  some-lowest : (k : ℕ) → (k < n) × (k ≡ lowest_below n f) → any_below n f ≡ true
  some-lowest k h = any_below_law f n k h.0 (rw h.1 ((lowest_below_law f n).passes (omega (arith, h.0, h.1))))

  none-lowest : lowest_below n f ≡ n → any_below n f ≡ false
  none-lowest e = any_end f n (lowest_below n f) (lowest_below_law f n).first (omega (arith, e))

  pub any-lowest : (found : Option ℕ) → IsLowest n f found → any_below n f ≡ is_some found
  any-lowest None e = none-lowest e
  any-lowest (Some k) h = some-lowest k h
