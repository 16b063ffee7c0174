-- Tidy tables: the states are numbered in the order in which a reader meets them, and no two are alike.
-- Two tidy tables with the same histories are equal.
use mathlib.Core.Path.{◌≡◌, refl, sym, ◌∙◌}
use mathlib.Core.Logic.{◌⊎◌, inl, inr}
use mathlib.Core.List.{List, []}
use Prim.Native.Nat.{ℕ, zero, suc, ◌≤◌, ◌<◌}
use native.Mathlib.Omega.{arith}
use lib.ListN.{length, get_or}
use lib.Seq.{ext_get_or}
use Rattle.automaton.specs.Machine.{Machine, step, SameHistories, Alike}
use Rattle.automaton.specs.Ordered.{Before, Ordered}
use Rattle.automaton.specs.Table.{tabled}
use Rattle.automaton.proofs.Order.{tri}
use Rattle.automaton.proofs.Machine.{zeros_alike, alike_step}
use Rattle.automaton.proofs.WellFormed.{IsTable, step-entry}

-- the states are in order, and alike states are equal
pub record Tidy (m : Machine) (n : ℕ) : Type 0 where
  pub ordered : Ordered m n
  pub distinct : (x y : ℕ) → x ≤ n → y ≤ n → Alike m x m y → x ≡ y

-- the rows before row s are the same
abbrev SameRows : Machine → Machine → ℕ → Type 0
SameRows A B s = (p d : ℕ) → p < s → step A p d ≡ step B p d

-- the entries before entry c of row s are the same
abbrev SameRow : Machine → Machine → ℕ → ℕ → Type 0
SameRow A B s c = (d : ℕ) → d < c → step A s d ≡ step B s d

-- a number that one code leads to in both from a state that is alike in both is alike in both
step_alike : (A B : Machine) (p d t : ℕ) → Alike A p B p → step A p d ≡ t → step B p d ≡ t → Alike A t B t
step_alike A B p d t from a b = rw b at (rw a at (alike_step A p B p from d))

module _ (A B : Machine) (n k : ℕ) (TA : Tidy A n) (TB : Tidy B k) (start : Alike A 1 B 1) where
  -- a state before which the rows are the same is alike in both
  rows_alike : (fuel s : ℕ) → s < fuel → s ≤ n → SameRows A B s → Alike A s B s
  rows_alike zero s b l same = absurd (omega arith)
  rows_alike (suc fuel) zero b l same = zeros_alike A B
  rows_alike (suc fuel) (suc zero) b l same = start
  rows_alike (suc fuel) (suc (suc s)) b l same =
      let r = TA.ordered.met (suc (suc s)) (omega arith) l in
      let from : Alike A r.0 B r.0 = rows_alike fuel r.0 (omega arith) (omega arith) (λ p d b'. same p d (omega arith)) in
      step_alike A B r.0 r.1 (suc (suc s)) from r.3 (sym (same r.0 r.1 r.2) ∙ r.3)

  row_alike : (s : ℕ) → s ≤ n → SameRows A B s → Alike A s B s
  row_alike s l same = rows_alike (suc s) s (omega arith) l same

  -- a number that stands before an entry up to which all is the same is alike in both
  met_alike : (s c p d t : ℕ) → s ≤ n → SameRows A B s → SameRow A B s c → Before p d s c → step B p d ≡ t → Alike A t B t
  met_alike s c p d t l same row (inl b) e =
      let from : Alike A p B p = row_alike p (omega arith) (λ q f b'. same q f (omega arith)) in
      step_alike A B p d t from (same p d b ∙ e) e
  met_alike s c p d t l same row (inr b) e =
      let here : step B s d ≡ t = rw b.0 at e in
      step_alike A B s d t (row_alike s l same) (row d b.1 ∙ here) here

  -- so the first entry in which they differ is not smaller in A
  not_smaller : (s c : ℕ) → s ≤ n → s ≤ k → SameRows A B s → SameRow A B s c → step A s c < step B s c → ⊥
  not_smaller s c l l' same row lt =
      let top : step B s c ≤ k = TB.ordered.inside s c l' in
      let there : Alike A (step A s c) B (step B s c) = alike_step A s B s (row_alike s l same) c in
      let here : Alike A (step A s c) B (step A s c) = go (step A s c) refl in
      let e : step A s c ≡ step B s c = TB.distinct (step A s c) (step B s c) (omega arith) top (λ h. sym (here h) ∙ there h) in
      omega arith
    where
      go : (t : ℕ) → step A s c ≡ t → Alike A t B t
      go zero e = zeros_alike A B
      go (suc zero) e = start
      go (suc (suc t)) e =
          let r = TB.ordered.in_order s c (suc (suc t)) l' (omega arith) (omega arith) in
          met_alike s c r.0 r.1 (suc (suc t)) l same row r.2 r.3

  -- nor has A fewer states
  not_fewer : SameRows A B (suc n) → n < k → ⊥
  not_fewer same lt =
      let r = TB.ordered.met (suc n) (omega (arith, TA.ordered.some)) lt in
      omega (arith, TA.ordered.inside r.0 r.1 (omega arith), same r.0 r.1 r.2, r.3)

module _ (A B : Machine) (n k : ℕ) (TA : Tidy A n) (TB : Tidy B k) (start : Alike A 1 B 1) where
  same_row : (s : ℕ) → s ≤ n → s ≤ k → SameRows A B s → (c : ℕ) → SameRow A B s c
  same_row s l l' same zero d b = absurd (omega arith)
  same_row s l l' same (suc c) d b = go (same_row s l l' same c) (tri d c) (tri (step A s c) (step B s c))
    where
      go : SameRow A B s c → (d < c) ⊎ ((d ≡ c) ⊎ (c < d)) → (step A s c < step B s c) ⊎ ((step A s c ≡ step B s c) ⊎ (step B s c < step A s c))
          → step A s d ≡ step B s d
      go row (inl p) q = row d p
      go row (inr (inr p)) q = absurd (omega arith)
      go row (inr (inl p)) (inl q) = absurd (not_smaller A B n k TA TB start s c l l' same row q)
      go row (inr (inl p)) (inr (inl q)) = rw p q
      go row (inr (inl p)) (inr (inr q)) =
          absurd (not_smaller B A k n TB TA (λ h. sym (start h)) s c l' l (λ p d b. sym (same p d b)) (λ d b. sym (row d b)) q)

  same_rows : (s : ℕ) → s ≤ suc n → s ≤ suc k → SameRows A B s
  same_rows zero l l' p d b = absurd (omega arith)
  same_rows (suc s) l l' p d b = go (same_rows s (omega arith) (omega arith)) (tri p s)
    where
      go : SameRows A B s → (p < s) ⊎ ((p ≡ s) ⊎ (s < p)) → step A p d ≡ step B p d
      go same (inl q) = same p d q
      go same (inr (inl q)) = rw q (same_row s (omega arith) (omega arith) same (suc d) d (omega arith))
      go same (inr (inr q)) = absurd (omega arith)

  -- two tidy tables whose starts are alike have the same number of states and the same entries
  pub tidy_unique : (n ≡ k) × ((s c : ℕ) → s ≤ n → step A s c ≡ step B s c)
  tidy_unique = go (tri n k)
    where
      go : (n < k) ⊎ ((n ≡ k) ⊎ (k < n)) → (n ≡ k) × ((s c : ℕ) → s ≤ n → step A s c ≡ step B s c)
      go (inl p) = absurd (not_fewer A B n k TA TB start (same_rows (suc n) (omega arith) (omega arith)) p)
      go (inr (inl p)) = (p, λ s c l. same_rows (suc n) (omega arith) (omega arith) s c (omega arith))
      go (inr (inr p)) =
          absurd (not_fewer B A k n TB TA (λ h. sym (start h)) (λ q d b. sym (same_rows (suc k) (omega arith) (omega arith) q d b)) p)

-- a list of rows that is tidy as a machine
abbrev pub TidyRows : ℕ → List (List ℕ) → Type 0
TidyRows w rows = Tidy (tabled w rows) (length rows)

module _ (w : ℕ) (A B : List (List ℕ)) (ok_a : IsTable w A) (ok_b : IsTable w B) where
  -- tables of one width with the same number of rows and the same steps are equal
  rows-equal : length A ≡ length B → ((s c : ℕ) → s ≤ length A → step (tabled w A) s c ≡ step (tabled w B) s c) → A ≡ B
  rows-equal long same =
      ext_get_or [] A B long λ s l.
      ext_get_or 0 (get_or A s []) (get_or B s []) (ok_a.wide s l ∙ sym (ok_b.wide s (omega arith))) λ c b.
      sym (step-entry w A ok_a (suc s) c) ∙ same (suc s) c l ∙ step-entry w B ok_b (suc s) c

  -- the histories fix a tidy table
  pub tidy-rows_unique : TidyRows w A → TidyRows w B → SameHistories (tabled w A) (tabled w B) → A ≡ B
  tidy-rows_unique TA TB same =
      let r = tidy_unique (tabled w A) (tabled w B) (length A) (length B) TA TB same in
      rows-equal r.0 r.1
