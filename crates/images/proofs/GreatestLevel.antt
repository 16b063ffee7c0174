-- A rule applies exactly if it fits and its level is the greatest among the rules that fit.
use mathlib.Core.Path.{◌≡◌, refl, sym, ◌∙◌}
use mathlib.Core.Bool.{Bool, cond, true, false, true≢false, not, ◌&&◌}
use Prim.Native.Nat.{ℕ, ◌<◌, ◌≤◌}
use native.Mathlib.Omega.{arith}
use lib.Dec.{ltb, eqb}
use borrow.Author.Tests.{ltb-true, ltb-false, eq-eqb, ne_eqb}
use Rattle.automaton.specs.Below.{any_below, fold_below}
use Rattle.automaton.proofs.Below.{and-true, any_below_law, any_below_at, greatest_below_law, greatest-below-least}
use Rattle.images.specs.Choice.{with_most}

-- ---- n rules, of which some fit, each with its level
module _ (n : ℕ) (fitting : ℕ → Bool) (level : ℕ → ℕ) where
  abbrev pub above : ℕ → ℕ → Bool
  above k i = ltb (level k) (level i) && fitting i

  abbrev pub seen : ℕ → ℕ
  seen i = cond (fitting i) (level i) 0

  abbrev pub top : ℕ
  top = fold_below n 0 (with_most seen)

  reaches : (i : ℕ) → i < n → fitting i ≡ true → level i ≤ top
  reaches i l e = let seen-is : seen i ≡ level i = rw e in rw seen-is at (greatest_below_law seen n i l)

  -- the level of a rule that is not above rule k
  not-above : (k i : ℕ) → above k i ≡ false → seen i ≤ level k
  not-above k i h = go (fitting i) refl (ltb (level k) (level i)) refl
    where
      go : (a : Bool) → fitting i ≡ a → (c : Bool) → ltb (level k) (level i) ≡ c → cond a (level i) 0 ≤ level k
      go false q c e = omega arith
      go true q true e = let z : true ≡ false = sym (rw (e, q)) ∙ h in absurd (true≢false z)
      go true q false e = ltb-false (level k) (level i) e

  pub by_level : (k : ℕ) → k < n → (fitting k && not (any_below n (above k))) ≡ (fitting k && eqb (level k) top)
  by_level k l = go (fitting k) refl
    where
      outranked : fitting k ≡ true → (b : Bool) → any_below n (above k) ≡ b → not b ≡ eqb (level k) top
      outranked q true e =
          let w = any_below_at (above k) n e in
          let h = and-true (ltb (level k) (level w.0)) (fitting w.0) w.2 in
          let less = ltb-true (level k) (level w.0) h.0 in
          let reach = reaches w.0 w.1 h.1 in
          sym (ne_eqb (level k) top (λ z. omega arith))
      outranked q false e =
          let reach = reaches k l q in
          let least : top ≤ level k = greatest-below-least seen n (level k) (λ i m. not-above k i (none i m)) in
          sym (eq-eqb (level k) top (omega arith))
        where
          none : (i : ℕ) → i < n → above k i ≡ false
          none i m = by (above k i) refl
            where
              by : (c : Bool) → above k i ≡ c → c ≡ false
              by true g = let z : true ≡ false = sym (any_below_law (above k) n i m g) ∙ e in absurd (true≢false z)
              by false g = refl

      go : (a : Bool) → fitting k ≡ a → (a && not (any_below n (above k))) ≡ (a && eqb (level k) top)
      go false q = refl
      go true q = outranked q (any_below n (above k)) refl
