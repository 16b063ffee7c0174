-- The smallest table with the histories of a table: it is tidy and numbered by earliest histories. So tables with the same histories have the same smallest
-- table, and none of them has fewer rows. It ends in the rows built for a machine: machines of one width with the same histories have the same rows.
use mathlib.Core.Path.{◌≡◌, refl, sym, ap, ◌∙◌, subst}
use mathlib.Core.Bool.{true}
use mathlib.Core.Logic.{◌↔◌}
use mathlib.Core.List.{List, ◌++◌}
use Prim.Native.Nat.{ℕ, ◌≤◌}
use native.Mathlib.Omega.{arith}
use lib.ListN.{length}
use Rattle.automaton.specs.History.{History}
use Rattle.automaton.specs.Machine.{Machine, after, is_state, possible_from, possible, SameHistories, Alike}
use Rattle.automaton.specs.Explore.{reached}
use Rattle.automaton.specs.Table.{table, tabled}
use Rattle.automaton.specs.Join.{joined, minimal}
use Rattle.automaton.proofs.Numbered.{Numbered}
use Rattle.automaton.proofs.Machine.{state-is, after_append}
use Rattle.automaton.proofs.WellFormed.{IsTable, after-inside}
use Rattle.automaton.proofs.Explore.{reached-few}
use Rattle.automaton.proofs.Joined.{IsClass, joined-step-class, joined-after-class, joined-start, joined-possible, joined-distinct}
use Rattle.automaton.proofs.Tidy.{TidyRows, tidy-rows_unique}
use Rattle.automaton.proofs.Table.{table-length, table-is-table, table-histories, table-numbered, table-tidy}

-- a tidy table of width w with the histories of m, its states numbered by their earliest histories
pub record TidyTableOf (w : ℕ) (m : Machine) (rows : List (List ℕ)) : Type 0 where
  pub is_table : IsTable w rows
  pub tidy : TidyRows w rows
  pub histories : SameHistories (tabled w rows) m
  pub numbered : Numbered (after (tabled w rows) 1) (length rows)

module _ (w : ℕ) (m : Machine) (rows : List (List ℕ)) (t : TidyTableOf w m rows) where
  abbrev M : Machine
  M = tabled w rows

  inside : (h : History) → after M 1 h ≤ length rows
  inside h = after-inside w rows t.is_table 1 h t.is_table.some

  -- a possible history leads to a row
  pub tidy-led : (h : History) → possible m h ≡ true → (1 ≤ after M 1 h) × (after M 1 h ≤ length rows)
  tidy-led h p = (state-is (after M 1 h) (t.histories h ∙ p), inside h)

  -- two histories lead to one row exactly when the same histories are possible after each
  pub tidy-joined : (g h : History) → (after M 1 g ≡ after M 1 h) ↔ ((k : History) → possible m (g ++ k) ≡ possible m (h ++ k))
  tidy-joined g h = (λ e k. from g k ∙ ap (λ (s : ℕ). possible_from M s k) e ∙ sym (from h k), back)
    where
      from : (g k : History) → possible m (g ++ k) ≡ possible_from M (after M 1 g) k
      from g k = sym (t.histories (g ++ k)) ∙ ap is_state (after_append M 1 g k)

      back : ((k : History) → possible m (g ++ k) ≡ possible m (h ++ k)) → after M 1 g ≡ after M 1 h
      back same = t.tidy.distinct (after M 1 g) (after M 1 h) (inside g) (inside h) (λ k. sym (from g k) ∙ same k ∙ from h k)

-- machines with the same histories have the same tidy table
module _ (w : ℕ) (m n : Machine) (A B : List (List ℕ)) (a : TidyTableOf w m A) (b : TidyTableOf w n B) where
  pub tidy-table_unique : SameHistories m n → A ≡ B
  tidy-table_unique same =
      tidy-rows_unique w A B a.is_table b.is_table a.tidy b.tidy (λ h. a.histories h ∙ same h ∙ sym (b.histories h))

module _ (w : ℕ) (rows : List (List ℕ)) (ok : IsTable w rows) where
  abbrev J : Machine
  J = joined w rows

  -- the joined machine has at most as many states as the table has rows
  joined-few : length (reached J (length rows)) ≤ length rows
  joined-few = reached-few J (length rows) refl (length rows) (λ s c. (joined-step-class w rows ok s c).0) ok.some

  -- histories lead to classes, and alike classes are equal
  led_to_class : (h : History) → IsClass rows (after J 1 h)
  led_to_class h = joined-after-class w rows ok 1 h (ok.some, joined-start w rows ok)

  led-distinct : (g h : History) → Alike J (after J 1 g) J (after J 1 h) → after J 1 g ≡ after J 1 h
  led-distinct g h = joined-distinct w rows ok (after J 1 g) (after J 1 h) (led_to_class g) (led_to_class h)

  -- the smallest table is well formed and tidy, and has the table's histories
  pub minimal-tidy-table : TidyTableOf w (tabled w rows) (minimal w rows)
  unfolding minimal
  minimal-tidy-table = record {
    is_table = table-is-table J (length rows) refl joined-few;
    tidy = table-tidy J (length rows) refl joined-few led-distinct;
    histories = λ h. table-histories J (length rows) refl joined-few h ∙ joined-possible w rows ok h;
    numbered = table-numbered J (length rows) refl joined-few;
  }

  pub minimal-length : length (minimal w rows) ≤ length rows
  unfolding minimal
  minimal-length = omega (arith, table-length J (reached J (length rows)), joined-few)

  -- a table is tidy exactly if it is its own smallest table
  pub minimal_of_tidy : TidyRows w rows → minimal w rows ≡ rows
  minimal_of_tidy tidy =
      let small = minimal-tidy-table in
      tidy-rows_unique w (minimal w rows) rows small.is_table ok small.tidy tidy small.histories

  pub tidy_of_minimal : minimal w rows ≡ rows → TidyRows w rows
  tidy_of_minimal e = subst (TidyRows w) e minimal-tidy-table.tidy

module _ (w : ℕ) (A B : List (List ℕ)) (ok_a : IsTable w A) (ok_b : IsTable w B) where
  -- tables of one width with the same histories have the same smallest table
  pub minimal_unique : SameHistories (tabled w A) (tabled w B) → minimal w A ≡ minimal w B
  minimal_unique = tidy-table_unique w (tabled w A) (tabled w B) (minimal w A) (minimal w B) (minimal-tidy-table w A ok_a) (minimal-tidy-table w B ok_b)

  -- no table with the histories of A has fewer rows
  pub fewest : SameHistories (tabled w A) (tabled w B) → length (minimal w A) ≤ length B
  fewest same = rw (minimal_unique same) (minimal-length w B ok_b)

-- ---- the rows built for a machine
abbrev pub rows_for : Machine → ℕ → List (List ℕ)
rows_for m most = minimal m.width (table m (reached m most))

module _ (m : Machine) (most : ℕ) (begins : is_state m.start ≡ true) (enough : length (reached m most) ≤ most) where
  abbrev whole : List (List ℕ)
  whole = table m (reached m most)

  pub built : TidyTableOf m.width m (rows_for m most)
  built =
      let small = minimal-tidy-table m.width whole (table-is-table m most begins enough) in
      record {
        is_table = small.is_table;
        tidy = small.tidy;
        histories = λ h. small.histories h ∙ table-histories m most begins enough h;
        numbered = small.numbered;
      }

  pub built_length : length (rows_for m most) ≤ length (reached m most)
  built_length = omega (arith, minimal-length m.width whole (table-is-table m most begins enough), table-length m (reached m most))

module _ (m n : Machine) (widths : m.width ≡ n.width) (most : ℕ) (begins-m : is_state m.start ≡ true) (begins-n : is_state n.start ≡ true)
    (enough-m : length (reached m most) ≤ most) (enough-n : length (reached n most) ≤ most) where
  built_n : TidyTableOf m.width n (rows_for n most)
  built_n = subst (λ (w : ℕ). TidyTableOf w n (rows_for n most)) (sym widths) (built n most begins-n enough-n)

  -- machines of one width with the same histories have the same rows
  pub built_unique : SameHistories m n → rows_for m most ≡ rows_for n most
  built_unique = tidy-table_unique m.width m n (rows_for m most) (rows_for n most) (built m most begins-m enough-m) built_n
