-- Labels on the numbers 1 to N, and two labels made one (a partition, and the union of two of its classes). A test that divides a label after a merge
-- divided one before, or divides the two numbers that were merged; and each merge takes one label away.
use mathlib.Core.Path.{◌≡◌, refl, ap, sym, ◌∙◌}
use mathlib.Core.Bool.{Bool, cond, true, false}
use mathlib.Core.Logic.{◌⊎◌, inl, inr}
use Prim.Native.Nat.{ℕ, zero, suc, ◌≤◌, ◌<◌}
use native.Mathlib.Omega.{arith}
use lib.Dec.{T, eqb}
use borrow.Author.Tests.{eqb-true, eqb-false, eq-eqb, ne_eqb}
use Rattle.automaton.specs.Machine.{in_one}
use Rattle.automaton.proofs.Machine.{in_one_cotrans, in_one-sym, in_one_self}
use Rattle.automaton.proofs.Below.{count-below_grows, count-below-some}
use Rattle.automaton.specs.Labels.{Among, Rooted, own_label, labels, Divides}

-- each number that has the label of y gets the label of x, and the others keep theirs
abbrev pub merge : (ℕ → ℕ) → ℕ → ℕ → ℕ → ℕ
merge label x y u = cond (eqb (label u) (label y)) (label x) (label u)

abbrev pub Merged : ℕ → ℕ → ℕ → (ℕ → ℕ) → (ℕ → ℕ) → Type 0
Merged N x y old new = (u : ℕ) → Among N u → new u ≡ merge old x y u

-- the same in two cases
abbrev Relabelled : ℕ → ℕ → (ℕ → ℕ) → (ℕ → ℕ) → ℕ → Type 0
Relabelled x y old new u = ((old u ≡ old y) × (new u ≡ old x)) ⊎ ((old u ≡ old y → ⊥) × (new u ≡ old u))

-- where each number is its own label
module _ (N : ℕ) (label : ℕ → ℕ) (own : (u : ℕ) → Among N u → label u ≡ u) where
  pub own-rooted : Rooted N label
  own-rooted u a = (rw (own u a) a, ap label (own u a))

  pub own_undivided : (test : ℕ → Bool) → Divides N label test → ⊥
  own_undivided test d =
      let same : d.0 ≡ d.1 = sym (own d.0 d.2) ∙ d.4 ∙ own d.1 d.3 in
      in_one_self (test d.1) (rw same at d.5)

-- there is a label
pub some_label : (N : ℕ) (label : ℕ → ℕ) → Rooted N label → (u : ℕ) → Among N u → 1 ≤ labels N label
some_label N label rooted u a = go (label u) (rooted u a).0 (rooted u a).1
  where
    go : (r : ℕ) → Among N r → label r ≡ r → 1 ≤ labels N label
    go zero b e = absurd (omega arith)
    go (suc r) b e = count-below-some N (own_label label) r (omega arith) (eq-eqb (label (suc r)) (suc r) e)

module _ (N x y : ℕ) (old new : ℕ → ℕ) (merged : Merged N x y old new) (inx : Among N x) (iny : Among N y) where
  relabelled : (u : ℕ) → Among N u → Relabelled x y old new u
  relabelled u a = go (eqb (old u) (old y)) refl (merged u a)
    where
      go : (b : Bool) → eqb (old u) (old y) ≡ b → new u ≡ cond b (old x) (old u) → Relabelled x y old new u
      go true q e = inl (eqb-true (old u) (old y) q, e)
      go false q e = inr (eqb-false (old u) (old y) q, e)

  module _ (test : ℕ → Bool) where
    abbrev Before : Type 0
    Before = Divides N old test ⊎ T (in_one (test x) (test y))

    -- the new label of u is the old label of some v, on which the test agrees with u or divided something before
    stand-in : (u : ℕ) → Among N u → (v : ℕ) × Among N v × (new u ≡ old v) × (T (in_one (test u) (test v)) → Before)
    stand-in u a = go (relabelled u a)
      where
        go : Relabelled x y old new u → (v : ℕ) × Among N v × (new u ≡ old v) × (T (in_one (test u) (test v)) → Before)
        go (inl p) = (x, inx, p.1, λ t. by-way-of-y (in_one_cotrans (test u) (test y) (test x) t))
          where
            by-way-of-y : T (in_one (test u) (test y)) ⊎ T (in_one (test y) (test x)) → Before
            by-way-of-y (inl t) = inl (u, y, a, iny, p.0, t)
            by-way-of-y (inr t) = inr (in_one-sym (test y) (test x) t)
        go (inr p) = (u, a, p.1, λ t. absurd (in_one_self (test u) t))

    pub merge-divides : Divides N new test → Divides N old test ⊎ T (in_one (test x) (test y))
    merge-divides (u, v, a, b, e, t) = go (stand-in u a) (stand-in v b)
      where
        go : (u' : ℕ) × Among N u' × (new u ≡ old u') × (T (in_one (test u) (test u')) → Before)
            → (v' : ℕ) × Among N v' × (new v ≡ old v') × (T (in_one (test v) (test v')) → Before) → Before
        go (u', a', f, h) (v', b', g, k) = first (in_one_cotrans (test u) (test u') (test v) t)
          where
            second : T (in_one (test u') (test v')) ⊎ T (in_one (test v') (test v)) → Before
            second (inl s) = inl (u', v', a', b', sym f ∙ e ∙ g, s)
            second (inr s) = k (in_one-sym (test v') (test v) s)

            first : T (in_one (test u) (test u')) ⊎ T (in_one (test u') (test v)) → Before
            first (inl s) = h s
            first (inr s) = second (in_one_cotrans (test u') (test v') (test v) s)

  module _ (rooted : Rooted N old) (two : old x ≡ old y → ⊥) where
    -- every label but that of y stays
    label-stays : (u : ℕ) → Among N u → (old u ≡ old y → ⊥) → new (old u) ≡ old u
    label-stays u a n = go (relabelled (old u) (rooted u a).0)
      where
        go : Relabelled x y old new (old u) → new (old u) ≡ old u
        go (inl p) = absurd (n (sym (rooted u a).1 ∙ p.0))
        go (inr p) = p.1 ∙ (rooted u a).1

    pub merge-rooted : Rooted N new
    merge-rooted u a = go (relabelled u a)
      where
        go : Relabelled x y old new u → Among N (new u) × (new (new u) ≡ new u)
        go (inl p) = (rw p.1 (rooted x inx).0, rw p.1 (label-stays x inx two))
        go (inr p) = (rw p.1 (rooted u a).0, rw p.1 (label-stays u a p.0))

    own-before : (k : ℕ) → k < N → own_label new k ≡ true → own_label old k ≡ true
    own-before k l e = go (relabelled (suc k) (omega arith)) (eqb-true (new (suc k)) (suc k) e)
      where
        go : Relabelled x y old new (suc k) → new (suc k) ≡ suc k → own_label old k ≡ true
        go (inl p) q = absurd (two (sym (rooted x inx).1 ∙ ap old (sym p.1 ∙ q) ∙ p.0))
        go (inr p) q = eq-eqb (old (suc k)) (suc k) (sym p.1 ∙ q)

    -- the label of y is no label any more
    pub merge-fewer : labels N new < labels N old
    merge-fewer = go (old y) refl (rooted y iny).0 (rooted y iny).1
      where
        go : (r : ℕ) → old y ≡ r → Among N r → old r ≡ r → labels N new < labels N old
        go zero e a own = absurd (omega arith)
        go (suc r) e a own =
            count-below_grows (own_label new) (own_label old) N own-before r (omega arith)
            (ne_eqb (new (suc r)) (suc r) (gone (relabelled (suc r) a))) (eq-eqb (old (suc r)) (suc r) own)
          where
            gone : Relabelled x y old new (suc r) → new (suc r) ≡ suc r → ⊥
            gone (inl p) q = two (sym p.1 ∙ q ∙ sym e)
            gone (inr p) q = p.0 (own ∙ sym e)
