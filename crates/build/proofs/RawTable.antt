-- What exploring leaves: the table of the states that were reached, in bytes, its states in the order of their earliest histories. With the images of a policy it
-- is the table of the policy's situations.
use mathlib.Core.Path.{◌≡◌, refl, sym, ap, ◌∙◌, subst}
use mathlib.Core.Bool.{Bool, cond, true, false}
use mathlib.Core.List.{List, [], ◌∷◌, ◌++◌}
use Prim.Native.Nat.{ℕ, suc, min, ◌+◌, ◌-◌, ◌*◌, ◌<◌, ◌≤◌}
use native.Mathlib.Omega.{arith}
use native.Mathlib.Nat.{mul-le-mul_right}
use native.Mathlib.Decide.{dec_lt}
use lib.Dec.{leb}
use lib.ListN.{length, get_or, drop, get_or-append}
use lib.Seq.{get_or-append-add}
use borrow.Author.Tests.{leb-true, leb-false}
use Rattle.automaton.specs.Machine.{Machine, is_state}
use Rattle.automaton.specs.Table.{table, tabled}
use Rattle.automaton.proofs.WellFormed.{IsTable}
use Rattle.automaton.proofs.Explore.{reached-sound}
use Rattle.automaton.proofs.Table.{table-length, table-is-table, table-wide, table-ordered}
use Rattle.definitions.specs.Answer.{written}
use Rattle.definitions.specs.Policy.{width}
use Rattle.definitions.specs.Valuation.{valuations}
use Rattle.definitions.specs.Situation.{start_situation, policy_machine}
use Rattle.definitions.specs.Book.{concat}
use Rattle.definitions.specs.Refusal.{situations}
use Rattle.explore.specs.SetImages.{images_machine}
use Rattle.images.specs.Images.{ImagesOf}
use Rattle.explore.specs.Reaches.{all_reached, RowsFit, Reaches}
use Rattle.definitions.specs.Rows.{rows_in, TableIn}
use Rattle.definitions.proofs.Steps.{start-is-state}
use Rattle.definitions.proofs.Written.{length-written}
use Rattle.definitions.proofs.BookBytes.{length-concat}
use Rattle.definitions.proofs.RowsWritten.{rows_of-concat}
use Rattle.build.proofs.PolicyMachine.{reached-policy, table-policy}
use Rattle.automaton.specs.Ordered.{Ordered}

-- every entry of a table is at most k
concat-low : (k : ℕ) (rows : List (List ℕ)) → ((s c : ℕ) → get_or (get_or rows s []) c 0 ≤ k) → (i : ℕ) → get_or (concat rows) i 0 ≤ k
concat-low k [] low i = omega arith
concat-low k (row ∷ rows) low i = go (dec_lt i (length row)) (concat-low k rows (λ s c. low (suc s) c))
  where
    go : Dec (i < length row) → ((i : ℕ) → get_or (concat rows) i 0 ≤ k) → get_or (row ++ concat rows) i 0 ≤ k
    go (yes b) ih = rw (get_or-append row (concat rows) 0 i b) (low 0 i)
    go (no b) ih =
        let e : length row + (i - length row) ≡ i = omega arith in
        rw (← e, get_or-append-add row (concat rows) (i - length row) 0) (ih (i - length row))

module _ (m : Machine) (begins : is_state m.start ≡ true) where
  reached-some : 1 ≤ length (all_reached m)
  unfolding all_reached
  reached-some = (reached-sound m 127 begins).some

  reached-table : length (all_reached m) ≤ 127 → IsTable m.width (table m (all_reached m))
  unfolding all_reached
  reached-table = table-is-table m 127 begins

  reached-ordered : length (all_reached m) ≤ 127 → Ordered (tabled m.width (table m (all_reached m))) (length (table m (all_reached m)))
  unfolding all_reached
  reached-ordered = table-ordered m 127 begins

  -- what exploring leaves
  module _ {found raw : List ℕ} {n : ℕ} {found' raw' : List ℕ} (long : RowsFit m (length raw)) (reaches : Reaches m found raw n found' raw') where
    explored-over : n ≡ 0 → 127 < length (all_reached m)
    explored-over e = go (leb (length (all_reached m)) 127) refl
      where
        go : (b : Bool) → leb (length (all_reached m)) 127 ≡ b → 127 < length (all_reached m)
        go true q = absurd (omega (arith, reached-some, sym e ∙ reaches.count ∙ ap (λ (b : Bool). cond b (length (all_reached m)) 0) q))
        go false q = leb-false (length (all_reached m)) 127 q

    module _ (state : n ≡ 0 → ⊥) where
      explored-count : (n ≡ length (all_reached m)) × (n ≤ 127)
      explored-count = go (leb (length (all_reached m)) 127) refl
        where
          go : (b : Bool) → leb (length (all_reached m)) 127 ≡ b → (n ≡ length (all_reached m)) × (n ≤ 127)
          go true q =
              let e : n ≡ length (all_reached m) = reaches.count ∙ ap (λ (b : Bool). cond b (length (all_reached m)) 0) q in
              (e, omega (arith, leb-true (length (all_reached m)) 127 q))
          go false q = absurd (state (reaches.count ∙ ap (λ (b : Bool). cond b (length (all_reached m)) 0) q))

      abbrev rows : List (List ℕ)
      rows = table m (all_reached m)

      some : 0 < n
      some = omega (arith, explored-count.0, reached-some)

      count : length rows ≡ n
      count = table-length m (all_reached m) ∙ sym explored-count.0

      size : length (concat rows) ≡ n * m.width
      size = length-concat m.width rows (table-wide m (all_reached m)) ∙ ap (λ (k : ℕ). k * m.width) count

      fits : n * m.width ≤ length raw
      fits =
          let low : n ≤ min 127 (length (all_reached m)) = omega (arith, explored-count) in
          omega (arith, long, mul-le-mul_right m.width low)

      explored-rows : rows_in raw' n m.width ≡ rows
      explored-rows =
          ap (λ (bytes : List ℕ). rows_in bytes n m.width) (reaches.rows some)
          ∙ ap (λ (k : ℕ). rows_in (written (concat rows) raw) k m.width) (sym count)
          ∙ rows_of-concat m.width rows (drop (length (concat rows)) raw) (table-wide m (all_reached m))

      -- its states are in the order of their earliest histories
      explored-ordered : Ordered (tabled m.width (rows_in raw' n m.width)) n
      explored-ordered = rw explored-rows (subst (Ordered (tabled m.width rows)) count (reached-ordered (omega (arith, explored-count))))

      explored-table : TableIn raw' n m.width
      explored-table =
          let is = reached-table (omega (arith, explored-count)) in
          record {
            some = some;
            whole = omega (arith, ap length (reaches.rows some), length-written (concat rows) raw (omega (arith, size, fits)), fits);
            entries = λ i b.
                omega (
                  arith,
                  ap (λ (bytes : List ℕ). get_or bytes i 0) (reaches.rows some),
                  get_or-append (concat rows) (drop (length (concat rows)) raw) 0 i (omega (arith, size)),
                  concat-low n rows (λ s c. omega (arith, is.inside (suc s) c, count)) i,
                );
          }

-- ---- the situations of a policy
-- raw has the n rows of the table of the situations of p
pub record SituationRows (p raw : List ℕ) (n : ℕ) : Type 0 where
  pub few : n ≤ 127
  pub is_table : TableIn raw n (width p)
  pub ordered : Ordered (tabled (width p) (rows_in raw n (width p))) n
  pub count : length (situations p) ≤ 127
  pub rows : rows_in raw n (width p) ≡ table (policy_machine p) (situations p)

module _ (p images : List ℕ) (are : ImagesOf p images) where
  abbrev m : Machine
  m = images_machine images (valuations p) (width p) (start_situation p)

  situations-are : all_reached m ≡ situations p
  unfolding all_reached situations
  situations-are = reached-policy p images are 127

  -- room for the rows of the situations is room for those of the machine
  pub situations_fit : (room : ℕ) → min 127 (length (situations p)) * width p ≤ room → RowsFit m room
  situations_fit room fits = rw situations-are fits

  module _ {found raw : List ℕ} {n : ℕ} {found' raw' : List ℕ} (long : RowsFit m (length raw)) (reaches : Reaches m found raw n found' raw') where
    pub situations-over : n ≡ 0 → 127 < length (situations p)
    situations-over e = rw situations-are at (explored-over m (start-is-state p) long reaches e)

    pub situation-rows : (n ≡ 0 → ⊥) → SituationRows p raw' n
    situation-rows some =
        let n-is = explored-count m (start-is-state p) long reaches some in
        record {
          few = n-is.1;
          is_table = explored-table m (start-is-state p) long reaches some;
          ordered = explored-ordered m (start-is-state p) long reaches some;
          count = omega (arith, n-is, ap length situations-are);
          rows = explored-rows m (start-is-state p) long reaches some ∙ table-policy p images are (all_reached m) ∙ ap (table (policy_machine p)) situations-are;
        }
