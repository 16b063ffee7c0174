-- The first number at which P fails is found by parts, and a property that each number before it hands on comes to it.
use mathlib.Core.Path.{◌≡◌, refl}
use Prim.Native.Nat.{ℕ, zero, suc, ◌+◌, ◌-◌, ◌≤◌, ◌<◌}
use native.Mathlib.Omega.{arith}
use native.Mathlib.Decide.{dec_lt}
use Rattle.comparelabels.specs.FirstFailing.{FirstFailing}

module _ (P : ℕ → Type 0) where
  -- P holds at each number from k to end
  abbrev pub Throughout : ℕ → ℕ → Type 0
  Throughout k end = (j : ℕ) → k ≤ j → j < end → P j

  through : (k l end : ℕ) → Throughout k l → Throughout l end → Throughout k end
  through k l end low high j h b = go (dec_lt j l)
    where
      go : Dec (j < l) → P j
      go (yes p) = low j h p
      go (no p) = high j (omega arith) b

  pub through_one : (k l : ℕ) → Throughout k l → P l → Throughout k (l + 1)
  through_one k l low p = through k l (l + 1) low (λ j h b. let e : j ≡ l = omega arith in rw e p)

  pub fails-nowhere : (k end : ℕ) → k ≤ end → Throughout k end → FirstFailing P k end end
  fails-nowhere k end l all = record { least = l; most = omega arith; before = all; fails = λ b. absurd (omega arith) }

  pub fails-here : (k l end : ℕ) → k ≤ l → l ≤ end → Throughout k l → (P l → ⊥) → FirstFailing P k end l
  fails-here k l end h b all n = record { least = h; most = b; before = all; fails = λ _. n }

  -- P holds from k to l: the first that fails after l is the first after k
  module _ (k l end r : ℕ) (h : k ≤ l) (all : Throughout k l) where
    pub fails-later : FirstFailing P l end r → FirstFailing P k end r
    fails-later F = record { least = omega (arith, F.least); most = F.most; before = through k l r all F.before; fails = F.fails }

    -- also if it fails in a part
    pub fails-in-part : (e : ℕ) → e ≤ end → r < e → FirstFailing P l e r → FirstFailing P k end r
    fails-in-part e b below F = fails-later (record { least = F.least; most = omega arith; before = F.before; fails = λ _. F.fails below })

    -- nothing fails before end
    pub fails-after : (r < end → ⊥) → FirstFailing P l end r → Throughout k end
    fails-after n F = through k l end all (λ j h b. F.before j h (omega arith))

-- what each number from k to r hands on to the next one comes from k to r
module _ (P : ℕ → Type 0) (k r : ℕ) (l : k ≤ r) (begun : P k) (hands : (j : ℕ) → k ≤ j → j < r → P j → P (suc j)) where
  induction_by : (i : ℕ) → (j : ℕ) → j ≡ k + i → j ≤ r → P j
  induction_by zero j e h = let same : j ≡ k = omega arith in rw same begun
  induction_by (suc i) j e h =
      let last : j ≡ suc (k + i) = omega arith in
      rw last (hands (k + i) (omega arith) (omega arith) (induction_by i (k + i) refl (omega arith)))

  pub induction : P r
  induction = induction_by (r - k) r (omega arith) (omega arith)
