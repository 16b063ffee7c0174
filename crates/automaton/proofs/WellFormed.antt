-- Well-formed tables: at least one row, every row as long as the table is wide, every entry 0 or the number of a row. The steps of such a table's
-- machine are its entries, and they stay among its rows.
use mathlib.Core.Path.{◌≡◌, refl, sym, ap}
use mathlib.Core.Bool.{Bool, cond, true, false}
use mathlib.Core.List.{List, [], ◌∷◌, map}
use Prim.Native.Nat.{ℕ, zero, suc, ◌≤◌, ◌<◌}
use native.Mathlib.Nat.{le_of_suc-le-suc, not-suc-le-zero}
use native.Mathlib.Omega.{arith}
use native.Mathlib.Decide.{dec_lt}
use lib.Dec.{ltb}
use lib.ListN.{length, get_or, get_or-eq_default}
use borrow.Author.Tests.{ltb-false}
use Rattle.automaton.specs.History.{History}
use Rattle.automaton.specs.Machine.{step, after}
use Rattle.automaton.specs.Table.{entry_in, tabled}
use Rattle.automaton.proofs.Machine.{after_keeps}

-- every row has w entries
abbrev pub Wide : ℕ → List (List ℕ) → Type 0
Wide w rows = (s : ℕ) → s < length rows → length (get_or rows s []) ≡ w

pub record IsTable (w : ℕ) (rows : List (List ℕ)) : Type 0 where
  pub some : 1 ≤ length rows
  pub wide : Wide w rows
  pub inside : (s c : ℕ) → entry_in rows s c ≤ length rows

-- a place of a mapped list, whatever stands for the places past its end
pub get_or-map-within : {A B : Type 0} (f : A → B) (xs : List A) (i : ℕ) (d : A) (e : B) → i < length xs → get_or (map f xs) i e ≡ f (get_or xs i d)
get_or-map-within f [] i d e h = absurd (not-suc-le-zero h)
get_or-map-within f (x ∷ xs) zero d e h = refl
get_or-map-within f (x ∷ xs) (suc i) d e h = get_or-map-within f xs i d e (le_of_suc-le-suc h)

-- past the rows there are no entries
pub entry-beyond : (rows : List (List ℕ)) (s c : ℕ) → length rows < s → entry_in rows s c ≡ 0
entry-beyond rows zero c h = refl
entry-beyond rows (suc s) c h =
    let past : length rows ≤ s = omega arith in
    ap (λ (row : List ℕ). get_or row c 0) (get_or-eq_default rows [] past)

module _ (w : ℕ) (rows : List (List ℕ)) (ok : IsTable w rows) where
  -- at or above the width there are no entries
  pub entry_past : (s c : ℕ) → w ≤ c → entry_in rows s c ≡ 0
  entry_past zero c h = refl
  entry_past (suc s) c h = go (dec_lt s (length rows))
    where
      go : Dec (s < length rows) → entry_in rows (suc s) c ≡ 0
      go (yes l) = get_or-eq_default (get_or rows s []) 0 (omega (arith, ok.wide s l))
      go (no l) = entry-beyond rows (suc s) c (omega arith)

  -- a step is an entry
  pub step-entry : (s c : ℕ) → step (tabled w rows) s c ≡ entry_in rows s c
  step-entry zero c = refl
  step-entry (suc s) c = go (ltb c w) refl
    where
      go : (b : Bool) → ltb c w ≡ b → cond b (entry_in rows (suc s) c) 0 ≡ entry_in rows (suc s) c
      go true e = refl
      go false e = sym (entry_past (suc s) c (ltb-false c w e))

  -- steps stay among the rows
  pub step-inside : (s c : ℕ) → step (tabled w rows) s c ≤ length rows
  step-inside s c = rw (step-entry s c) (ok.inside s c)

  pub after-inside : (s : ℕ) (h : History) → s ≤ length rows → after (tabled w rows) s h ≤ length rows
  after-inside s h l = after_keeps (tabled w rows) (λ t. t ≤ length rows) step-inside s l h
