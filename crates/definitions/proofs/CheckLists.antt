-- Rows judged in order: what it says that none of them refuses, that one of them does, that one passes, and that those before one pass. A row is named by its number.
use mathlib.Core.Path.{◌≡◌, refl, sym, ◌∙◌}
use mathlib.Core.Bool.{Bool, cond, true, false, not, ◌&&◌, false≢true, true≢false}
use mathlib.Core.List.{List, [], ◌∷◌}
use Prim.Native.Nat.{ℕ, ◌≤◌}
use native.Mathlib.Omega.{arith}
use lib.Dec.{leb, eqb}
use borrow.Author.Tests.{leb-true, eqb-true, eqb-false, not-true}
use Rattle.automaton.proofs.Below.{and-true}
use Rattle.definitions.specs.Answer.{judge, Check, row, refusal_by}

-- the test of row n; it passes where there is no such row
abbrev pub row_test : ℕ → List Check → List ℕ → Bool
row_test n [] x = true
row_test n (row m passes ∷ later) x = let rest = row_test n later x in cond (eqb n m) (passes x) rest

-- row n and those after it
abbrev pub rows_from : ℕ → List Check → List Check
rows_from n [] = []
rows_from n (row m passes ∷ later) = let rest = rows_from n later in cond (eqb n m) (row m passes ∷ later) rest

abbrev choice : Bool → Type 0 → Type 0 → Type 0
choice true A B = A
choice false A B = B

-- A, and the rows before row n pass; all of them do, where there is no row n
abbrev pub With : ℕ → List Check → List ℕ → Type 0 → Type 0
With n [] x A = A
With n (row m passes ∷ later) x A = choice (eqb n m) A (With n later x (A × (passes x ≡ true)))

pub record PassedBefore (n : ℕ) (rows : List Check) (x : List ℕ) : Type 0 where
  pub passed : With n rows x Unit

-- each number passes a test
abbrev pub numbers_hold : (ℕ → Bool) → List Check → Bool
numbers_hold test [] = true
numbers_hold test (row m passes ∷ later) = test m && numbers_hold test later

-- no two rows have one number
abbrev pub numbers_differ : List Check → Bool
numbers_differ [] = true
numbers_differ (row m passes ∷ later) = numbers_hold (λ k. not (eqb k m)) later && numbers_differ later

module _ (x : List ℕ) where
  decided : (n : ℕ) (rows : List Check) (A : Type 0) → With n rows x A → A × (refusal_by rows x ≡ refusal_by (rows_from n rows) x)
  decided n [] A h = (h, refl)
  decided n (row m passes ∷ later) A h = go (eqb n m) (decided n later (A × (passes x ≡ true))) h
    where
      go : (b : Bool)
          → (With n later x (A × (passes x ≡ true)) → (A × (passes x ≡ true)) × (refusal_by later x ≡ refusal_by (rows_from n later) x))
          → choice b A (With n later x (A × (passes x ≡ true)))
          → A × (judge m (passes x) (refusal_by later x) ≡ refusal_by (cond b (row m passes ∷ later) (rows_from n later)) x)
      go true rest h = (h, refl)
      go false rest h = let r = rest h in (r.0.0, rw r.0.1 r.1)

  stops : (n : ℕ) (rows : List Check) → row_test n rows x ≡ false → refusal_by (rows_from n rows) x ≡ n
  stops n [] e = absurd (true≢false e)
  stops n (row m passes ∷ later) e = go (eqb n m) refl (stops n later) e
    where
      go : (b : Bool) → eqb n m ≡ b → (row_test n later x ≡ false → refusal_by (rows_from n later) x ≡ n)
          → cond b (passes x) (row_test n later x) ≡ false → refusal_by (cond b (row m passes ∷ later) (rows_from n later)) x ≡ n
      go true same rest e = rw e (sym (eqb-true n m same))
      go false same rest e = rest e

  -- where no row refuses, every test passes
  pub row-passes : (n : ℕ) (rows : List Check) → numbers_hold (leb 1) rows ≡ true → refusal_by rows x ≡ 0 → row_test n rows x ≡ true
  row-passes n [] some e = refl
  row-passes n (row m passes ∷ later) some e =
      let numbers = and-true _ _ some in
      go (passes x) refl (eqb n m) (leb-true 1 m numbers.0) (row-passes n later numbers.1) e
    where
      go : (b : Bool) → passes x ≡ b → (same : Bool) → 1 ≤ m → (refusal_by later x ≡ 0 → row_test n later x ≡ true)
          → judge m b (refusal_by later x) ≡ 0 → cond same (passes x) (row_test n later x) ≡ true
      go true is true l rest e = is
      go true is false l rest e = rest e
      go false is same l rest e = absurd (omega arith)

  -- a number that is returned is that of a row, or 0
  pub refusal_most : (most : ℕ) (rows : List Check) → numbers_hold (λ n. leb n most) rows ≡ true → refusal_by rows x ≤ most
  refusal_most most [] few = omega arith
  refusal_most most (row m passes ∷ later) few =
      let numbers = and-true _ _ few in go (passes x) (leb-true m most numbers.0) (refusal_most most later numbers.1)
    where
      go : (b : Bool) → m ≤ most → refusal_by later x ≤ most → judge m b (refusal_by later x) ≤ most
      go true l rest = rest
      go false l rest = l

  -- and none that no row has
  pub refusal_among : (n : ℕ) (rows : List Check) → 1 ≤ n → numbers_hold (λ k. not (eqb k n)) rows ≡ true → refusal_by rows x ≡ n → ⊥
  refusal_among n [] some others e = omega arith
  refusal_among n (row m passes ∷ later) some others e =
      let numbers = and-true _ _ others in
      go (passes x) (eqb-false m n (not-true (eqb m n) numbers.0)) (refusal_among n later some numbers.1) e
    where
      go : (b : Bool) → (m ≡ n → ⊥) → (refusal_by later x ≡ n → ⊥) → judge m b (refusal_by later x) ≡ n → ⊥
      go true other rest e = rest e
      go false other rest e = other e

  -- nor that of a row whose test passes
  pub row-not_returned : (n : ℕ) (rows : List Check) → 1 ≤ n → numbers_differ rows ≡ true → row_test n rows x ≡ true → refusal_by rows x ≡ n → ⊥
  row-not_returned n [] some differ holds e = omega arith
  row-not_returned n (row m passes ∷ later) some differ holds e =
      let both = and-true _ _ differ in
      go (eqb n m) refl (passes x) refl both.0 (row-not_returned n later some both.1) holds e
    where
      go : (same : Bool) → eqb n m ≡ same → (b : Bool) → passes x ≡ b → numbers_hold (λ k. not (eqb k m)) later ≡ true
          → (row_test n later x ≡ true → refusal_by later x ≡ n → ⊥) → cond same (passes x) (row_test n later x) ≡ true → judge m b (refusal_by later x) ≡ n → ⊥
      go true s true is others rest h e = refusal_among m later (omega (arith, eqb-true n m s)) others (e ∙ eqb-true n m s)
      go true s false is others rest h e = false≢true (sym is ∙ h)
      go false s true is others rest h e = rest h e
      go false s false is others rest h e = eqb-false n m s (sym e)

module _ {n : ℕ} {rows : List Check} {x : List ℕ} (before : PassedBefore n rows x) where
  -- where the rows before row n pass, that row and those after it decide
  pub rows_from_law : refusal_by rows x ≡ refusal_by (rows_from n rows) x
  rows_from_law = (decided x n rows Unit before.passed).1

  -- and where its test fails, its number is returned
  pub row_refuses : row_test n rows x ≡ false → n ≡ refusal_by rows x
  row_refuses e = sym (rows_from_law ∙ stops x n rows e)
