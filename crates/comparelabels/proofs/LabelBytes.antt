-- Labels from base on: they are their own numbers', from the beginning on and after each merge into a label of the first book.
use mathlib.Core.Path.{◌≡◌, refl, ap, sym, ◌∙◌}
use mathlib.Core.Bool.{cond}
use mathlib.Core.List.{List}
use Prim.Native.Nat.{ℕ, ◌+◌, ◌≤◌, ◌<◌}
use native.Mathlib.Omega.{arith}
use native.Mathlib.Decide.{dec_lt, ℕ_discrete}
use lib.Dec.{eqb}
use lib.ListN.{length, get_or, set, length-map, length-set}
use lib.Seq.{get_or-set_same, get_or-set_other, ext_get_or}
use borrow.Author.Tests.{eq-eqb, ne_eqb}
use Rattle.automaton.specs.Below.{list_below}
use Rattle.automaton.proofs.Below.{length-list-below, get_or-list-below}
use Rattle.automaton.proofs.Labels.{Merged}
use Rattle.automaton.proofs.WellFormed.{get_or-map-within}
use Rattle.comparelabels.specs.LabelBytes.{label_at, itself, begun_labels, moved, merged, OwnFrom}

module _ (base : ℕ) (label : List ℕ) (O : OwnFrom base label) where
  -- a label of the first book's states is below base
  pub low_label : (x : ℕ) → 1 ≤ x → x < base → x < length label → label_at label x < base
  low_label x some low room = go (dec_lt (label_at label x) base)
    where
      go : Dec (label_at label x < base) → label_at label x < base
      go (yes p) = p
      go (no p) = absurd (omega (arith, O.own x some room (omega arith)))

  -- number v, a state of the second book
  module _ (v : ℕ) (high : base < v) (within : v < length label) where
    -- the label of v is not that of no state
    pub not_none : label_at label v ≡ base → ⊥
    not_none e = omega (arith, e, O.own v (omega arith) within (omega (arith, e)))

    -- what becomes of a label where v's becomes that of x
    module _ (x : ℕ) where
      at_moved : (u : ℕ) → u < length label → label_at label u ≡ label_at label v → label_at (merged label x v) u ≡ label_at label x
      at_moved u b e = get_or-map-within (moved (label_at label v) (label_at label x)) label u 0 0 b ∙ rw (eq-eqb (label_at label u) (label_at label v) e)

      at_other : (u : ℕ) → u < length label → (label_at label u ≡ label_at label v → ⊥) → label_at (merged label x v) u ≡ label_at label u
      at_other u b n = get_or-map-within (moved (label_at label v) (label_at label x)) label u 0 0 b ∙ rw (ne_eqb (label_at label u) (label_at label v) n)

      -- no other number has v's label if it is v's own
      pub alone : base ≤ label_at label v → set label v (label_at label x) ≡ merged label x v
      alone above = ext_get_or 0 (set label v (label_at label x)) (merged label x v) (length-set label v (label_at label x) ∙ sym (length-map label (moved (label_at label v) (label_at label x))))
          (λ u b. each u (rw length-set at b) (ℕ_discrete u v))
        where
          other : (u : ℕ) → u < length label → (u ≡ v → ⊥) → label_at label u ≡ label_at label v → ⊥
          other u b ne e = go (dec_lt 0 u)
            where
              go : Dec (0 < u) → ⊥
              go (yes p) = ne (sym (O.own u p b (omega (arith, e, above))) ∙ e ∙ O.own v (omega arith) within above)
              go (no p) = let z : u ≡ 0 = omega arith in not_none (sym e ∙ (rw z O.zero))

          each : (u : ℕ) → u < length label → Dec (u ≡ v) → get_or (set label v (label_at label x)) u 0 ≡ label_at (merged label x v) u
          each u b (yes e) = rw e (get_or-set_same label v (label_at label x) 0 within ∙ sym (at_moved v within refl))
          each u b (no e) = get_or-set_other label v u (label_at label x) 0 e ∙ sym (at_other u b (other u b e))

      pub merged-own : 1 ≤ x → x < base → OwnFrom base (merged label x v)
      merged-own some low = record {
        zero = at_other 0 (omega arith) (λ e. not_none (sym e ∙ O.zero)) ∙ O.zero;
        next = at_other base (omega arith) (λ e. not_none (sym e ∙ O.next)) ∙ O.next;
        own = λ u p b above. own u p (rw length-map at b) above (ℕ_discrete (label_at label u) (label_at label v));
      }
        where
          own : (u : ℕ) → 0 < u → u < length label → base ≤ label_at (merged label x v) u → Dec (label_at label u ≡ label_at label v)
              → label_at (merged label x v) u ≡ u
          own u p b above (yes e) = absurd (omega (arith, above, at_moved u b e, low_label x some low (omega arith)))
          own u p b above (no e) = at_other u b e ∙ O.own u p b (omega (arith, above, at_other u b e))

-- the labels of x and v are made one
pub labels-merged : (N x v : ℕ) (label : List ℕ) → N < length label → Merged N x v (label_at label) (label_at (merged label x v))
labels-merged N x v label room u a = get_or-map-within (moved (label_at label v) (label_at label x)) label u 0 0 (omega (arith, a.most))

-- ---- the beginning
module _ (base size : ℕ) (some : 1 < base) (room : base + 1 < size) where
  pub begun_length : length (begun_labels base size) ≡ size
  begun_length = rw (length-set, length-set, length-list-below)

  at_zero : label_at (begun_labels base size) 0 ≡ base
  at_zero = get_or-set_other (set (list_below size itself) 0 base) (base + 1) 0 1 0 (λ e. omega arith)
      ∙ get_or-set_same (list_below size itself) 0 base 0 (rw length-list-below (omega arith))

  at_start : label_at (begun_labels base size) (base + 1) ≡ 1
  at_start = get_or-set_same (set (list_below size itself) 0 base) (base + 1) 1 0 (rw (length-set, length-list-below) room)

  at_itself : (u : ℕ) → 0 < u → u < size → (u ≡ base + 1 → ⊥) → label_at (begun_labels base size) u ≡ u
  at_itself u p b ne = get_or-set_other (set (list_below size itself) 0 base) (base + 1) u 1 0 ne
      ∙ (get_or-set_other (list_below size itself) 0 u base 0 (λ e. omega arith) ∙ get_or-list-below itself size u 0 b)

  pub begun_own : OwnFrom base (begun_labels base size)
  begun_own = record {
    zero = at_zero;
    next = at_itself base (omega arith) (omega arith) (λ e. omega arith);
    own = λ u p b above. own u p (rw begun_length at b) above (ℕ_discrete u (base + 1));
  }
    where
      own : (u : ℕ) → 0 < u → u < size → base ≤ label_at (begun_labels base size) u → Dec (u ≡ base + 1) → label_at (begun_labels base size) u ≡ u
      own u p b above (yes e) = absurd (omega (arith, above, ap (label_at (begun_labels base size)) e ∙ at_start))
      own u p b above (no e) = at_itself u p b e

  pub begun_merged : (N : ℕ) → N < size → Merged N 1 (base + 1) itself (label_at (begun_labels base size))
  begun_merged N few u a = go (ℕ_discrete u (base + 1))
    where
      go : Dec (u ≡ base + 1) → label_at (begun_labels base size) u ≡ cond (eqb u (base + 1)) 1 u
      go (yes e) = ap (label_at (begun_labels base size)) e ∙ (at_start ∙ rw (eq-eqb u (base + 1) e))
      go (no e) = at_itself u a.least (omega (arith, a.most)) e ∙ rw (ne_eqb u (base + 1) e)
