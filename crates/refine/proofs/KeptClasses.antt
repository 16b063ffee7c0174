-- States that keep their class in a round: neither they nor the first state of their class lead to a state that the round before moved.
use mathlib.Core.Path.{◌≡◌, sym, ap, ◌∙◌}
use mathlib.Core.Bool.{false, true≢false}
use mathlib.Core.List.{List}
use Prim.Native.Nat.{ℕ, zero, suc, ◌-◌, ◌*◌, ◌/◌, ◌<◌, ◌≤◌}
use native.Mathlib.Omega.{arith}
use lib.Bits.{bit_and, bit_or}
use lib.ListN.{length, drop}
use Rattle.definitions.proofs.Sets.{Has}
use Rattle.definitions.specs.Bytes.{byte, bit}
use Rattle.definitions.specs.Rows.{looked_up}
use Rattle.definitions.proofs.TableBytes.{row_fits, state-entries}
use Rattle.refine.specs.Rounds.{InRounds, KeptClasses, next_round}
use Rattle.refine.specs.StateWords.{all_states, RowWords, moved_states}
use Rattle.refine.proofs.StateWords.{first_misses, second_misses, leads-has, all_have, unmoved}
use Rattle.refine.proofs.Rounds.{entries-equal, rows-equal, class-bounds, keeps-class, class-row, next_length_law}
use Rattle.refine.proofs.RoundSequence.{round-more}

-- entry c of the row of state s
abbrev entry : List ℕ → ℕ → ℕ → ℕ → ℕ
entry raw w s c = byte (drop ((s - 1) * w) raw) c

-- what is to be shown of a state and the first of its class
abbrev SameEntries : List ℕ → ℕ → List ℕ → ℕ → Type 0
SameEntries raw w classes moved =
    (s c : ℕ) → 1 ≤ s → s < length classes → c < w → bit moved (entry raw w s c / 2) ≡ false → bit moved (entry raw w (byte classes s) c / 2) ≡ false
    → byte classes (entry raw w (byte classes s) c) ≡ byte classes (entry raw w s c)

module _ {raw : List ℕ} {w : ℕ} {classes : List ℕ} (leads : List ℕ) (now : InRounds raw w classes) (fits : length classes ≤ length leads) (words : RowWords raw w (length classes - 1) leads) (moved : ℕ) where
  abbrev n : ℕ
  n = length classes - 1

  -- the word of a state has where its row leads
  leads_there : (s c : ℕ) → 1 ≤ s → s ≤ n → c < w → Has (byte leads s) (entry raw w s c / 2)
  leads_there zero c p l k = absurd (omega arith)
  leads_there (suc i) c p l k =
      let e : suc i - 1 ≡ i = omega arith in
      rw (words i l, e) (leads-has (drop (i * w) raw) w c k)

  kept_by : SameEntries raw w classes moved → KeptClasses raw w leads moved classes
  kept_by same = record { words = fits; kept = kept }
    where
      kept : (s : ℕ) → 1 ≤ s → s < length classes → bit_and (bit_or (byte leads s) (byte leads (byte classes s))) moved ≡ 0
          → byte (next_round raw w classes) s ≡ byte classes s
      kept s p l z =
          let b = class-bounds now s p l in
          let first = byte classes s in
          keeps-class now s p l
          (rows-equal (byte classes) (drop ((first - 1) * w) raw) (drop ((s - 1) * w) raw) w (row_fits raw n w now.table (first - 1) (omega arith))
          (row_fits raw n w now.table (s - 1) (omega arith))
          (λ c k. same s c p l k
          (first_misses (byte leads s) (byte leads first) moved (entry raw w s c / 2) z (leads_there s c p (omega arith) k))
          (second_misses (byte leads s) (byte leads first) moved (entry raw w first c / 2) z (leads_there first c b.0 (omega arith) k))))

-- ---- before the first round every state is taken for moved
module _ {raw : List ℕ} {w : ℕ} {classes : List ℕ} (leads : List ℕ) (now : InRounds raw w classes) (fits : length classes ≤ length leads) (words : RowWords raw w (length classes - 1) leads) where
  pub kept_begun : KeptClasses raw w leads all_states classes
  kept_begun = kept_by leads now fits words all_states same
    where
      same : SameEntries raw w classes all_states
      same s c p l k misses other =
          let low = state-entries now.table s p (omega arith) 128 (omega (arith, now.few)) c k in
          absurd (true≢false (sym (all_have (entry raw w s c / 2) (omega arith)) ∙ misses))

  -- a round moves some states, and in the next one those that do not lead there keep their class
  pub kept-turn : {next : List ℕ} → next ≡ next_round raw w classes → KeptClasses raw w leads (moved_states classes next) next
  kept-turn {next} e = kept_by leads (round-more now e) (rw long fits) (rw long words) (moved_states classes next) same
    where
      long : length next ≡ length classes
      long = ap length e ∙ next_length_law now

      row_of : (s : ℕ) → 1 ≤ s → s < length classes → looked_up classes w (drop ((byte next s - 1) * w) raw) ≡ looked_up classes w (drop ((s - 1) * w) raw)
      row_of s p l = ap (λ (x : List ℕ). looked_up classes w (drop ((byte x s - 1) * w) raw)) e ∙ class-row now s p l

      same : SameEntries raw w next (moved_states classes next)
      same s c p l k misses other =
          let b = class-bounds (round-more now e) s p l in
          let m : s < length classes = omega (arith, long) in
          let low = state-entries now.table s p (omega arith) (length classes) (omega arith) c k in
          let low-class = state-entries now.table (byte next s) b.0 (omega arith) (length classes) (omega arith) c k in
          sym (unmoved classes next (entry raw w (byte next s) c) low-class other)
          ∙ entries-equal (byte classes) (drop ((byte next s - 1) * w) raw) (drop ((s - 1) * w) raw) w (row_fits raw (length classes - 1) w now.table (byte next s - 1) (omega arith))
          (row_fits raw (length classes - 1) w now.table (s - 1) (omega arith)) (row_of s p m) c k
          ∙ unmoved classes next (entry raw w s c) low misses
