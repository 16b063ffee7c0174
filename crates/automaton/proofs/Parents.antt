-- The histories of a queue, kept as parents and codes: place 0 has the empty history, each other place that of its parent, an earlier place, and then
-- its own code. A place that is stored at the end leaves the histories of the others as they are.
use mathlib.Core.Path.{◌≡◌, refl, ap, sym, ◌∙◌}
use mathlib.Core.Logic.{◌⊎◌, inl, inr}
use mathlib.Core.List.{[], ◌∷◌, ◌++◌}
use Prim.Native.Nat.{ℕ, zero, suc, ◌≤◌, ◌<◌}
use native.Mathlib.Omega.{arith}
use lib.ListN.{length, length-append}
use Rattle.automaton.specs.History.{History}
use Rattle.automaton.proofs.Below.{below_suc}
use Rattle.automaton.specs.Parents.{climb, trail, EarlierParents}

-- x is stored at place m, and the places before are as they were
pub record Stored (m x : ℕ) (old new : ℕ → ℕ) : Type 0 where
  pub same : (k : ℕ) → k < m → new k ≡ old k
  pub last : new m ≡ x

-- with parents and codes that agree below m the histories agree, whatever the fuel, if it is enough
module _ (m : ℕ) (parent code parent' code' : ℕ → ℕ) (falls : EarlierParents m parent) (same-parent : (k : ℕ) → k < m → parent' k ≡ parent k)
    (same_code : (k : ℕ) → k < m → code' k ≡ code k) where
  climb-same : (f g k : ℕ) → k < f → k < g → k < m → climb parent' code' f k ≡ climb parent code g k
  climb-same zero g k p q l = absurd (omega arith)
  climb-same (suc f) zero k p q l = absurd (omega arith)
  climb-same (suc f) (suc g) zero p q l = refl
  climb-same (suc f) (suc g) (suc k) p q l =
      let low = falls k l in
      let before = climb-same f g (parent (suc k)) (omega arith) (omega arith) (omega arith) in
      rw (same-parent (suc k) l, same_code (suc k) l) (ap (λ (h : History). h ++ (code (suc k) ∷ [])) before)

pub trail-start : (parent code : ℕ → ℕ) → trail parent code 0 ≡ []
unfolding trail
trail-start parent code = refl

module _ (m : ℕ) (parent code : ℕ → ℕ) (falls : EarlierParents m parent) where
  pub trail-step : (k : ℕ) → suc k < m → trail parent code (suc k) ≡ trail parent code (parent (suc k)) ++ (code (suc k) ∷ [])
  unfolding trail
  trail-step k l =
      let low = falls k l in
      let before = climb-same m parent code parent code falls (λ j b. refl) (λ j b. refl) (suc k) (suc (parent (suc k))) (parent (suc k)) in
      ap (λ (h : History). h ++ (code (suc k) ∷ [])) (before (omega arith) (omega arith) (omega arith))

  -- a history has at most as many codes as there are places before its own
  pub trail-length : (k : ℕ) → k < m → length (trail parent code k) ≤ k
  unfolding trail
  trail-length k l = go (suc k) k (omega arith) l
    where
      go : (fuel k : ℕ) → k < fuel → k < m → length (climb parent code fuel k) ≤ k
      go zero k b l = absurd (omega arith)
      go (suc fuel) zero b l = omega arith
      go (suc fuel) (suc k) b l =
          let low = falls k l in
          rw length-append (omega (arith, go fuel (parent (suc k)) (omega arith) (omega arith)))

-- place m is stored, with parent i and code c
module _ (m : ℕ) (parent code : ℕ → ℕ) (falls : EarlierParents m parent) (i c : ℕ) (parent' code' : ℕ → ℕ)
    (P : Stored m i parent parent') (C : Stored m c code code') where
  pub trail-same : (k : ℕ) → k < m → trail parent' code' k ≡ trail parent code k
  unfolding trail
  trail-same k l = climb-same m parent code parent' code' falls P.same C.same (suc k) (suc k) k (omega arith) (omega arith) l

  pub falls-stored : i < m → EarlierParents (suc m) parent'
  falls-stored l k b = go (below_suc (suc k) m b)
    where
      go : (suc k < m) ⊎ (suc k ≡ m) → parent' (suc k) ≤ k
      go (inl q) = rw (P.same (suc k) q) (falls k q)
      go (inr q) = omega (arith, ap parent' q ∙ P.last)

  pub trail-last : i < m → trail parent' code' m ≡ trail parent code i ++ (c ∷ [])
  trail-last l = go m refl
    where
      go : (k : ℕ) → m ≡ k → trail parent' code' k ≡ trail parent code i ++ (c ∷ [])
      go zero e = absurd (omega arith)
      go (suc k) e =
          let at-parent : parent' (suc k) ≡ i = ap parent' (sym e) ∙ P.last in
          let at_code : code' (suc k) ≡ c = ap code' (sym e) ∙ C.last in
          trail-step (suc m) parent' code' (falls-stored l) k (omega arith) ∙ rw (at-parent, at_code, trail-same i l)
