-- The choice among the rules of a set, one after the other: a rule of a greater level takes the place of those before it, and one that is not in the set
-- changes nothing.
use mathlib.Core.Path.{◌≡◌, refl, sym, ap, ◌∙◌}
use mathlib.Core.Bool.{Bool, cond, true, false, ◌&&◌}
use mathlib.Core.List.{List}
use mathlib.Core.Logic.{◌⊎◌, inl, inr}
use Prim.Native.Nat.{ℕ, zero, suc, ◌+◌, ◌/◌, ◌^◌, ◌<◌, ◌≤◌, max}
use native.Mathlib.Nat.{max-eq_left, max-eq_right, max-zero}
use native.Mathlib.Decide.{dec_le}
use native.Mathlib.Numerals.{add-one}
use native.Mathlib.Omega.{arith}
use lib.Bits.{bit_and}
use lib.Dec.{eqb}
use lib.ListN.{get_or}
use borrow.Author.Tests.{lt-ltb, le-ltb, eq-eqb, ne_eqb}
use Rattle.automaton.specs.Below.{fold_below}
use Rattle.automaton.proofs.Below.{and-true, greatest_below_law}
use Rattle.automaton.proofs.Order.{tri}
use Rattle.definitions.specs.Bytes.{bit}
use Rattle.definitions.specs.Situation.{empty_set, insert}
use Rattle.images.specs.Choice.{level_at, decision_at, with_decided, with_target, with_most, level_in, greatest, with_chosen, chosen_by, leading, Listed, Chosen}
use Rattle.images.specs.declared.deciding.Choice.{Choice}
use Rattle.images.specs.declared.deciding.Rank.{Rank}
use Rattle.rules.proofs.RuleSets.{bit_and_law, none_from, Member}

-- turns that change nothing can be left out
pub fold_idle : (f : ℕ → ℕ → ℕ) (a k n : ℕ) → k ≤ n → ((i x : ℕ) → k ≤ i → i < n → f i x ≡ x) → fold_below n a f ≡ fold_below k a f
fold_idle f a k zero l idle = let e : k ≡ 0 = omega arith in rw e
fold_idle f a k (suc n) l idle = go (dec_le k n) (λ h. fold_idle f a k n h (λ i x m b. idle i x m (omega arith)))
  where
    go : Dec (k ≤ n) → (k ≤ n → fold_below n a f ≡ fold_below k a f) → fold_below (suc n) a f ≡ fold_below k a f
    go (yes h) ih = idle n (fold_below n a f) h (omega arith) ∙ ih h
    go (no h) ih = let e : k ≡ suc n = omega arith in rw e

module _ (fits : ℕ) (ranks : List Rank) (targets : List ℕ) where
  left_out : (best d k x : ℕ) → (bit fits k && eqb (level_at ranks k) best) ≡ false → with_chosen fits ranks targets best d k x ≡ x
  left_out best d k x e = rw e (go (eqb (decision_at ranks k) d))
    where
      go : (b : Bool) → cond (b && false) (insert (get_or targets k 0) x) x ≡ x
      go true = refl
      go false = refl

  taken : (best d k x : ℕ) → bit fits k ≡ true → level_at ranks k ≡ best
      → with_chosen fits ranks targets best d k x ≡ with_decided (decision_at ranks k) d (get_or targets k 0) x
  taken best d k x e q = rw (e, eq-eqb (level_at ranks k) best q) (go (eqb (decision_at ranks k) d))
    where
      go : (b : Bool) → cond (b && true) (insert (get_or targets k 0) x) x ≡ cond b (insert (get_or targets k 0) x) x
      go true = refl
      go false = refl

  -- ---- rules that are not in the set
  module _ (k n : ℕ) (l : k ≤ n) (none : (i : ℕ) → k ≤ i → i < n → bit fits i ≡ false) where
    pub greatest-idle : greatest fits ranks n ≡ greatest fits ranks k
    greatest-idle = fold_idle (with_most (level_in fits ranks)) 0 k n l (λ i x a b. rw (none i a b, max-zero))

    pub leading-idle : (d : ℕ) → leading fits ranks targets n d ≡ leading fits ranks targets k d
    leading-idle d =
        ap (λ (best : ℕ). chosen_by fits ranks targets n best d) greatest-idle
        ∙ fold_idle (with_chosen fits ranks targets (greatest fits ranks k) d) empty_set k n l
        (λ i x a b. left_out (greatest fits ranks k) d i x (rw (none i a b)))

  -- ---- a rule that is in the set
  module _ (k : ℕ) (e : bit fits k ≡ true) where
    pub greatest_more : greatest fits ranks (suc k) ≡ max (greatest fits ranks k) (level_at ranks k)
    greatest_more = rw e

    -- no rule before it reaches a greater level
    unreached : (best d : ℕ) → greatest fits ranks k < best → chosen_by fits ranks targets k best d ≡ empty_set
    unreached best d l =
        fold_idle (with_chosen fits ranks targets best d) empty_set 0 k (omega arith) (λ i x a b. left_out best d i x (lower i b (bit fits i) refl))
      where
        lower : (i : ℕ) → i < k → (b : Bool) → bit fits i ≡ b → (b && eqb (level_at ranks i) best) ≡ false
        lower i m false q = refl
        lower i m true q =
            let is : level_in fits ranks i ≡ level_at ranks i = rw q in
            let at : level_at ranks i ≤ greatest fits ranks k = rw is at (greatest_below_law (level_in fits ranks) k i m) in
            ne_eqb (level_at ranks i) best (λ z. omega arith)

    pub leading-more : (d : ℕ) → leading fits ranks targets (suc k) d
        ≡ with_target (greatest fits ranks k) (level_at ranks k) (decision_at ranks k) d (get_or targets k 0) (leading fits ranks targets k d)
    leading-more d = go (tri (level_at ranks k) (greatest fits ranks k))
      where
        level : ℕ
        level = level_at ranks k

        before : ℕ
        before = greatest fits ranks k

        at : (best : ℕ) → max before level ≡ best → leading fits ranks targets (suc k) d
            ≡ with_chosen fits ranks targets best d k (chosen_by fits ranks targets k best d)
        at best q = ap (λ (b : ℕ). chosen_by fits ranks targets (suc k) b d) (greatest_more ∙ q)

        go : (level < before) ⊎ ((level ≡ before) ⊎ (before < level)) → leading fits ranks targets (suc k) d
            ≡ with_target before level (decision_at ranks k) d (get_or targets k 0) (leading fits ranks targets k d)
        go (inl l) =
            at before (max-eq_left {n = before} {m = level} (omega arith))
            ∙ left_out before d k (leading fits ranks targets k d) (rw (e, ne_eqb level before (λ z. omega arith)))
            ∙ rw (lt-ltb level before l)
        go (inr (inl q)) =
            at before (max-eq_left {n = before} {m = level} (omega arith))
            ∙ taken before d k (leading fits ranks targets k d) e q
            ∙ rw (le-ltb level before (omega arith), le-ltb before level (omega arith))
        go (inr (inr l)) =
            at level (max-eq_right {n = before} {m = level} (omega arith))
            ∙ taken level d k (chosen_by fits ranks targets k level d) e refl
            ∙ rw (le-ltb level before (omega arith), lt-ltb before level l, unreached level d l)

  -- ---- the choice after the rules below k, those below m and rule m, and all
  pub chosen_turn : (k m : ℕ) (choice next : Choice) → k ≤ m → Member fits k m → Chosen fits ranks targets k choice
      → next.best ≡ max choice.best (level_at ranks m)
      → next.accepted.set ≡ with_target choice.best (level_at ranks m) (decision_at ranks m) 1 (get_or targets m 0) choice.accepted.set
      → next.rejected.set ≡ with_target choice.best (level_at ranks m) (decision_at ranks m) 0 (get_or targets m 0) choice.rejected.set
      → Chosen fits ranks targets (m + 1) next
  chosen_turn k m choice next l h chosen eb ea er =
      let best : choice.best ≡ greatest fits ranks m = chosen.0 ∙ sym (greatest-idle k m l h.none) in (
        rw add-one (eb ∙ ap (λ (b : ℕ). max b (level_at ranks m)) best ∙ sym (greatest_more m h.here)),
        rw add-one (ea ∙ sets 1 choice.accepted.set best chosen.1),
        rw add-one (er ∙ sets 0 choice.rejected.set best chosen.2),
      )
    where
      sets : (d x : ℕ) → choice.best ≡ greatest fits ranks m → x ≡ leading fits ranks targets k d
          → with_target choice.best (level_at ranks m) (decision_at ranks m) d (get_or targets m 0) x ≡ leading fits ranks targets (suc m) d
      sets d x best e = rw (best, e ∙ sym (leading-idle k m l h.none d)) (sym (leading-more m h.here d))

  pub chosen_done : (k n : ℕ) (choice : Choice) → k ≤ n → fits / 2 ^ k ≡ 0 → Chosen fits ranks targets k choice → Chosen fits ranks targets n choice
  chosen_done k n choice l e chosen =
      let none : (i : ℕ) → k ≤ i → i < n → bit fits i ≡ false = λ i a b. none_from fits k i e a in (
        chosen.0 ∙ sym (greatest-idle k n l none),
        chosen.1 ∙ sym (leading-idle k n l none 1),
        chosen.2 ∙ sym (leading-idle k n l none 0),
      )

-- every rule that matches a request and is enabled has its entries
pub listed_both : (a b : ℕ) (ranks : List Rank) (targets : List ℕ) → Listed b ranks targets → Listed (bit_and a b) ranks targets
listed_both a b ranks targets h k e = h k (and-true (bit a k) (bit b k) (sym (bit_and_law a b k) ∙ e)).1
