-- A table as the bytes of its rows: it is well formed, and each state, from 1 on, has its row within.
use mathlib.Core.Path.{◌≡◌, refl, ap, ◌∙◌}
use mathlib.Core.List.{List, [], ◌∷◌}
use Prim.Native.Nat.{ℕ, zero, suc, ◌+◌, ◌-◌, ◌*◌, ◌<◌, ◌≤◌}
use native.Mathlib.Omega.{arith}
use native.Mathlib.Decide.{dec_lt}
use lib.ListN.{length, get_or, drop, length-drop, get_or-eq_default}
use lib.Seq.{length-take-le, get_or-take, get_or-drop}
use Rattle.automaton.specs.Table.{entry_in}
use Rattle.automaton.specs.Join.{class_of}
use Rattle.automaton.proofs.Below.{length-list-below, get_or-list-below}
use Rattle.automaton.proofs.WellFormed.{IsTable}
use Rattle.definitions.specs.Bytes.{byte}
use Rattle.definitions.specs.Rows.{row_in, rows_in, TableIn, EntriesBelow}
use Rattle.automaton.proofs.Loops.{row_within}

-- the classes in an array, with that of "not possible" first
pub cons_at : (l : List ℕ) (x : ℕ) → byte (0 ∷ l) x ≡ class_of l x
cons_at l zero = refl
cons_at l (suc x) = refl

module _ (raw : List ℕ) (n w : ℕ) (ok : TableIn raw n w) where
  pub row_is : (s : ℕ) → s < n → get_or (rows_in raw n w) s [] ≡ row_in raw w s
  row_is s l = get_or-list-below (row_in raw w) n s [] l

  pub rows-count : length (rows_in raw n w) ≡ n
  rows-count = length-list-below (row_in raw w) n

  pub row_fits : (s : ℕ) → s < n → w ≤ length (drop (s * w) raw)
  row_fits s l = rw length-drop (omega (arith, row_within s n w l, ok.whole))

  pub entry-is : (s c : ℕ) → s < n → c < w → entry_in (rows_in raw n w) (suc s) c ≡ byte raw (s * w + c)
  entry-is s c l b = ap (λ (row : List ℕ). get_or row c 0) (row_is s l) ∙ get_or-take w (drop (s * w) raw) c 0 b ∙ get_or-drop (s * w) raw c 0

  pub bytes-are-table : IsTable w (rows_in raw n w)
  bytes-are-table = record {
    some = omega (arith, rows-count, ok.some);
    wide = λ s l. let b : s < n = omega (arith, rows-count) in ap length (row_is s b) ∙ length-take-le w (drop (s * w) raw) (row_fits s b);
    inside = inside;
  }
    where
      within : (s c : ℕ) → Dec (s < n) → Dec (c < w) → entry_in (rows_in raw n w) (suc s) c ≤ n
      within s c (yes l) (yes b) = omega (arith, entry-is s c l b, ok.entries (s * w + c) (omega (arith, row_within s n w l)))
      within s c (yes l) (no b) =
          let past : length (row_in raw w s) ≤ c = omega (arith, length-take-le w (drop (s * w) raw) (row_fits s l)) in
          omega (arith, ap (λ (row : List ℕ). get_or row c 0) (row_is s l), get_or-eq_default (row_in raw w s) 0 past)
      within s c (no l) b =
          let past : length (rows_in raw n w) ≤ s = omega (arith, rows-count) in
          omega (arith, ap (λ (row : List ℕ). get_or row c 0) (get_or-eq_default (rows_in raw n w) [] past))

      inside : (s c : ℕ) → entry_in (rows_in raw n w) s c ≤ length (rows_in raw n w)
      inside zero c = omega arith
      inside (suc s) c = omega (arith, rows-count, within s c (dec_lt s n) (dec_lt c w))

module _ {raw : List ℕ} {n w : ℕ} (ok : TableIn raw n w) (t : ℕ) (p : 1 ≤ t) (l : t ≤ n) where
  pub state-row : (t - 1) * w + w ≤ length raw
  state-row = omega (arith, row_within (t - 1) n w (omega arith), ok.whole)

  pub state-entry : (c : ℕ) → c < w → byte raw ((t - 1) * w + c) ≤ n
  state-entry c b = ok.entries ((t - 1) * w + c) (omega (arith, row_within (t - 1) n w (omega arith)))

  pub state-entries : (k : ℕ) → n < k → EntriesBelow (drop ((t - 1) * w) raw) w k
  state-entries k m c b = omega (arith, get_or-drop ((t - 1) * w) raw c 0, state-entry c b)
