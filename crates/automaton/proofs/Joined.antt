-- The joined machine: it has the histories of its table, its states are the numbers of the table's classes, and no two of them are alike.
use mathlib.Core.Path.{◌≡◌, refl, sym, ap, ◌∙◌}
use mathlib.Core.Bool.{Bool, cond, true, false}
use mathlib.Core.List.{List}
use Prim.Native.Nat.{ℕ, zero, suc, ◌≤◌}
use native.Mathlib.Omega.{arith}
use lib.Dec.{ltb}
use lib.ListN.{length}
use Rattle.automaton.specs.History.{History}
use Rattle.automaton.specs.Machine.{step, after, is_state, possible_from, SameHistories, Alike}
use Rattle.automaton.specs.Table.{entry_in, tabled}
use Rattle.automaton.specs.Join.{class_of, classes, joined_by, joined}
use Rattle.automaton.proofs.Machine.{after_keeps, after-map_on, alike_step}
use Rattle.automaton.proofs.WellFormed.{IsTable, step-inside, after-inside}
use Rattle.automaton.proofs.AlikeWithin.{class_of-start}
use Rattle.automaton.proofs.StableClasses.{classes-named, classes_alike}

-- a is the number of a class of a table, or 0
abbrev pub IsClass : List (List ℕ) → ℕ → Type 0
IsClass rows a = (a ≤ length rows) × (class_of (classes rows) a ≡ a)

-- a step leads to the class of the state that it leads to in the table
pub joined-by-step : (cs : List ℕ) (w : ℕ) (rows : List (List ℕ)) (a c : ℕ) → step (joined_by cs w rows) a c ≡ class_of cs (step (tabled w rows) a c)
joined-by-step cs w rows zero c = refl
joined-by-step cs w rows (suc a) c = go (ltb c w)
  where
    go : (b : Bool) → cond b (class_of cs (entry_in rows (suc a) c)) 0 ≡ class_of cs (cond b (entry_in rows (suc a) c) 0)
    go true = refl
    go false = refl

module _ (w : ℕ) (rows : List (List ℕ)) (ok : IsTable w rows) where
  pub class-is-class : (x : ℕ) → x ≤ length rows → IsClass rows (class_of (classes rows) x)
  class-is-class x l =
      let named = classes-named w rows ok in
      (omega (arith, named.low x l), named.own x l)

  -- every step leads to a class or to 0
  pub joined-step-class : (a c : ℕ) → IsClass rows (step (joined w rows) a c)
  joined-step-class a c =
      rw (joined-by-step (classes rows) w rows a c) (class-is-class (step (tabled w rows) a c) (step-inside w rows ok a c))

  pub joined-after-class : (a : ℕ) (h : History) → IsClass rows a → IsClass rows (after (joined w rows) a h)
  joined-after-class a h p = after_keeps (joined w rows) (IsClass rows) joined-step-class a p h

  pub joined_step : (x c : ℕ) → x ≤ length rows → class_of (classes rows) (step (tabled w rows) x c) ≡ step (joined w rows) (class_of (classes rows) x) c
  joined_step x c l =
      let M = tabled w rows in
      let first = class_of (classes rows) x in
      let is = class-is-class x l in
      let alike : Alike M x M first = (classes_alike w rows ok x first l is.0).0 (sym is.1) in
      (classes_alike w rows ok (step M x c) (step M first c) (step-inside w rows ok x c) (step-inside w rows ok first c)).1 (alike_step M x M first alike c)
      ∙ sym (joined-by-step (classes rows) w rows first c)

  -- a state is alike to its class in the joined machine
  pub joined_alike : (x : ℕ) → x ≤ length rows → Alike (joined w rows) (class_of (classes rows) x) (tabled w rows) x
  joined_alike x l h =
      let M = tabled w rows in
      let goes = after-map_on M (joined w rows) (class_of (classes rows)) (λ y. y ≤ length rows) (λ y c m. step-inside w rows ok y c) joined_step x l h in
      ap is_state (sym goes) ∙ (classes-named w rows ok).state (after M x h) (after-inside w rows ok x h l)

  -- the start is a class
  pub joined-start : class_of (classes rows) 1 ≡ 1
  joined-start = class_of-start (length rows) (classes rows) (classes-named w rows ok) ok.some

  -- the joined machine has the histories of its table
  pub joined-possible : SameHistories (joined w rows) (tabled w rows)
  joined-possible h = ap (λ (s : ℕ). possible_from (joined w rows) s h) (sym joined-start) ∙ joined_alike 1 ok.some h

  -- no two classes are alike
  pub joined-distinct : (a b : ℕ) → IsClass rows a → IsClass rows b
      → Alike (joined w rows) a (joined w rows) b → a ≡ b
  joined-distinct a b p q alike = sym p.1 ∙ (classes_alike w rows ok a b p.0 q.0).1 same ∙ q.1
    where
      own : (a : ℕ) → IsClass rows a → Alike (joined w rows) a (tabled w rows) a
      own a p = rw p.1 at (joined_alike a p.0)

      same : Alike (tabled w rows) a (tabled w rows) b
      same h = sym (own a p h) ∙ alike h ∙ own b q h
