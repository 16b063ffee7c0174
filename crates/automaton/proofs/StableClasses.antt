-- Refinement comes to an end: a round that changes nothing is the last that could, and one round less than there are states is enough. So the classes of
-- a table are those of its alike states.
use mathlib.Core.Path.{◌≡◌, refl, sym, ap, ◌∙◌}
use mathlib.Core.Logic.{◌↔◌, ◌⊎◌, inl, inr}
use mathlib.Core.Bool.{Bool, true}
use mathlib.Core.List.{List}
use Prim.Native.Nat.{ℕ, zero, suc, ◌+◌, ◌-◌, ◌≤◌, ◌<◌}
use native.Mathlib.Omega.{arith}
use native.Mathlib.Decide.{dec_lt, dec_le}
use lib.Dec.{eqb}
use lib.ListN.{length}
use lib.Seq.{ext_get_or}
use borrow.Author.Tests.{eqb-true, eq-eqb}
use Rattle.automaton.specs.Machine.{Alike}
use Rattle.automaton.specs.Table.{tabled}
use Rattle.automaton.specs.Join.{class_of, refine, classes_after, classes}
use Rattle.automaton.specs.Below.{count_below}
use Rattle.automaton.proofs.Below.{count-below_le, count-below-same, count-below-some}
use Rattle.automaton.proofs.WellFormed.{IsTable}
use Rattle.automaton.proofs.AlikeWithin.{NamedByFirst, classes_after_law, classes-after-named, class_of-start}

-- the class of state s + 1 has its number
abbrev names : List ℕ → ℕ → Bool
names cs s = eqb (class_of cs (suc s)) (suc s)

-- how many classes there are after k rounds
abbrev pub class_count : List (List ℕ) → ℕ → ℕ
class_count rows k = count_below (length rows) (names (classes_after rows k))

-- the classes of `fine` are parts of those of cs
module _ (n : ℕ) (cs fine : List ℕ) (named : NamedByFirst n cs) (fine-named : NamedByFirst n fine)
    (parts : (x y : ℕ) → x ≤ n → y ≤ n → class_of fine x ≡ class_of fine y → class_of cs x ≡ class_of cs y) where
  still_names : (s : ℕ) → s < n → names cs s ≡ true → names fine s ≡ true
  still_names s h e =
      let r = class_of fine (suc s) in
      let low : r ≤ suc s = fine-named.low (suc s) h in
      let inside : r ≤ n = omega arith in
      let back : class_of cs r ≡ class_of cs (suc s) = parts r (suc s) inside h (fine-named.own (suc s) h) in
      eq-eqb r (suc s) (omega (arith, named.low r inside, eqb-true (class_of cs (suc s)) (suc s) e))

  module _ (few : count_below n (names fine) ≤ count_below n (names cs)) where
    same_class : (x : ℕ) → x ≤ n → class_of fine x ≡ class_of cs x
    same_class x h = go (class_of fine x) refl
      where
        go : (r : ℕ) → class_of fine x ≡ r → class_of fine x ≡ class_of cs x
        go zero e = e ∙ parts 0 x (omega arith) h (sym e)
        go (suc s) e =
            let inside : suc s ≤ n = omega (arith, fine-named.low x h) in
            let own : class_of fine (suc s) ≡ suc s = ap (class_of fine) (sym e) ∙ fine-named.own x h ∙ e in
            let old = count-below-same (names cs) (names fine) n still_names few s inside (eq-eqb (class_of fine (suc s)) (suc s) own) in
            e ∙ sym (eqb-true (class_of cs (suc s)) (suc s) old) ∙ parts (suc s) x inside h (own ∙ sym e)

    -- no more classes: the same classes
    same-classes : fine ≡ cs
    same-classes = ext_get_or 0 fine cs (fine-named.long ∙ sym named.long) (λ s l. same_class (suc s) (omega (arith, fine-named.long)))

-- a round that changes nothing is the last that could
pub settled_stays : (rows : List (List ℕ)) (k : ℕ) → refine rows (classes_after rows k) ≡ classes_after rows k
    → (j : ℕ) → k ≤ j → classes_after rows j ≡ classes_after rows k
settled_stays rows k e zero l = let same : zero ≡ k = omega arith in ap (classes_after rows) same
settled_stays rows k e (suc j) l = go (settled_stays rows k e j) (dec_le k j)
  where
    go : (k ≤ j → classes_after rows j ≡ classes_after rows k) → Dec (k ≤ j) → classes_after rows (suc j) ≡ classes_after rows k
    go before (yes m) = ap (refine rows) (before m) ∙ e
    go before (no m) = let same : suc j ≡ k = omega arith in ap (classes_after rows) same

module _ (w : ℕ) (rows : List (List ℕ)) (ok : IsTable w rows) where
  parts-after : (k x y : ℕ) → x ≤ length rows → y ≤ length rows → class_of (classes_after rows (suc k)) x ≡ class_of (classes_after rows (suc k)) y
      → class_of (classes_after rows k) x ≡ class_of (classes_after rows k) y
  parts-after k x y lx ly e = (classes_after_law w rows ok k x y lx ly).1 (λ h l. (classes_after_law w rows ok (suc k) x y lx ly).0 e h (omega arith))

  -- a round that gives no more classes changes nothing
  pub settled_by-count : (k : ℕ) → class_count rows (suc k) ≤ class_count rows k → refine rows (classes_after rows k) ≡ classes_after rows k
  settled_by-count k few =
      let named = classes-after-named w rows ok in
      same-classes (length rows) (classes_after rows k) (classes_after rows (suc k)) (named k) (named (suc k)) (parts-after k) few

  -- as long as rounds change something, there are more classes than rounds
  settled_or_more : (k : ℕ) → (refine rows (classes_after rows k) ≡ classes_after rows k) ⊎ (k < class_count rows k)
  settled_or_more zero =
      let start = class_of-start (length rows) (classes_after rows 0) (classes-after-named w rows ok 0) ok.some in
      inr (count-below-some (length rows) (names (classes_after rows 0)) 0 ok.some (eq-eqb (class_of (classes_after rows 0) 1) 1 start))
  settled_or_more (suc k) = go (settled_or_more k) (dec_lt (class_count rows k) (class_count rows (suc k)))
    where
      go : (refine rows (classes_after rows k) ≡ classes_after rows k) ⊎ (k < class_count rows k) → Dec (class_count rows k < class_count rows (suc k))
          → (refine rows (classes_after rows (suc k)) ≡ classes_after rows (suc k)) ⊎ (suc k < class_count rows (suc k))
      go (inl e) d = inl (ap (refine rows) e)
      go (inr l) (yes m) = inr (omega arith)
      go (inr l) (no m) = inl (ap (refine rows) (settled_by-count k (omega arith)))

  -- one round less than there are states is enough
  pub settled : refine rows (classes rows) ≡ classes rows
  settled = go (settled_or_more (length rows - 1))
    where
      go : (refine rows (classes rows) ≡ classes rows) ⊎ (length rows - 1 < class_count rows (length rows - 1)) → refine rows (classes rows) ≡ classes rows
      go (inl e) = e
      go (inr l) = settled_by-count (length rows - 1) (omega (arith, count-below_le (length rows) (names (refine rows (classes rows)))))

  -- so the classes of a table are those after any round that the next does not change
  pub classes_settled : (k : ℕ) → refine rows (classes_after rows k) ≡ classes_after rows k → classes rows ≡ classes_after rows k
  classes_settled k e = go (dec_le k (length rows - 1))
    where
      go : Dec (k ≤ length rows - 1) → classes rows ≡ classes_after rows k
      go (yes l) = settled_stays rows k e (length rows - 1) l
      go (no l) = sym (settled_stays rows (length rows - 1) settled k (omega arith))

  pub classes-named : NamedByFirst (length rows) (classes rows)
  classes-named = classes-after-named w rows ok (length rows - 1)

  -- two states are in one class exactly when they are alike
  pub classes_alike : (x y : ℕ) → x ≤ length rows → y ≤ length rows
      → (class_of (classes rows) x ≡ class_of (classes rows) y) ↔ Alike (tabled w rows) x (tabled w rows) y
  classes_alike x y lx ly = (to, λ alike. (classes_after_law w rows ok (length rows - 1) x y lx ly).1 (λ h l. alike h))
    where
      to : class_of (classes rows) x ≡ class_of (classes rows) y → Alike (tabled w rows) x (tabled w rows) y
      to e h =
          let k = length h + (length rows - 1) in
          let late : classes_after rows k ≡ classes rows = settled_stays rows (length rows - 1) settled k (omega arith) in
          (classes_after_law w rows ok k x y lx ly).0 (rw late e) h (omega arith)
