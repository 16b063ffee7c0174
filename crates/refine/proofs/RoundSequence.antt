-- Round after round, until one changes nothing: each round before divides a class, and then the classes are those of alike states.
use mathlib.Core.Path.{◌≡◌, refl, sym, ap, ◌∙◌}
use mathlib.Core.List.{List, [], ◌∷◌, map}
use Prim.Native.Nat.{ℕ, suc, ◌-◌, ◌<◌, ◌≤◌}
use native.Mathlib.Omega.{arith}
use native.Mathlib.Decide.{dec_lt}
use lib.Dec.{eqb}
use lib.ListN.{length, drop, replicate}
use Rattle.automaton.specs.Join.{refine, together, classes_after, classes}
use Rattle.automaton.specs.Below.{count_below}
use Rattle.automaton.proofs.Below.{count-below_le}
use Rattle.automaton.proofs.StableClasses.{class_count, settled_by-count, classes_settled}
use Rattle.definitions.specs.Bytes.{byte}
use Rattle.definitions.specs.Rows.{rows_in, TableIn}
use Rattle.refine.specs.Classes.{rows_with, last_round}
use Rattle.refine.specs.Rounds.{InRounds, next_round, one_class}
use Rattle.definitions.proofs.TableBytes.{rows-count}
use Rattle.refine.proofs.Rounds.{is_table_law, next-is, next_length_law}

-- ---- before the first round
map-together : (rows : List (List ℕ)) → map together rows ≡ replicate (length rows) 1
map-together [] = refl
map-together (row ∷ rows) = ap (λ (l : List ℕ). 1 ∷ l) (map-together rows)

pub rounds_begun : {raw : List ℕ} {w : ℕ} {array : List ℕ} → TableIn raw (length array - 1) w → length array ≤ 128 → array ≡ one_class (length array)
    → InRounds raw w array
rounds_begun {raw} {w} {array} ok few e = record {
  few = few;
  table = ok;
  rounds = 0;
  are = e ∙ ap (λ (l : List ℕ). 0 ∷ l)
      (ap (λ (n : ℕ). replicate n 1) (sym (rows-count raw (length array - 1) w ok)) ∙ sym (map-together (rows_with raw w array)));
}

-- ---- one round more
-- how many states name their class
abbrev pub own_classes : List ℕ → ℕ
own_classes array = count_below (length array - 1) (λ s. eqb (byte array (suc s)) (suc s))

module _ {raw : List ℕ} {w : ℕ} {array : List ℕ} (now : InRounds raw w array) where
  abbrev rows : List (List ℕ)
  rows = rows_with raw w array

  own_classes_law : own_classes array ≡ class_count rows now.rounds
  own_classes_law =
      ap (λ (l : List ℕ). count_below (length array - 1) (λ s. eqb (byte l (suc s)) (suc s))) now.are
      ∙ ap (λ (n : ℕ). count_below n (λ s. eqb (byte (0 ∷ classes_after rows now.rounds) (suc s)) (suc s))) (sym (rows-count raw (length array - 1) w now.table))

  -- what the next round gives
  module _ {next : List ℕ} (e : next ≡ next_round raw w array) where
    long : length next ≡ length array
    long = ap length e ∙ next_length_law now

    pub round-more : InRounds raw w next
    round-more = record {
      few = omega (arith, long, now.few);
      table = rw long now.table;
      rounds = suc now.rounds;
      are = e ∙ next-is now ∙ ap (λ (k : ℕ). 0 ∷ classes_after (rows_in raw (k - 1) w) (suc now.rounds)) (sym long);
    }

    rows_same : rows_with raw w next ≡ rows
    rows_same = ap (λ (k : ℕ). rows_in raw (k - 1) w) long

    -- a round that changes something divides a class
    pub round-less : (array ≡ next → ⊥) → length next - own_classes next < length array - own_classes array
    round-less differ = go (dec_lt (class_count rows now.rounds) (class_count rows (suc now.rounds)))
      where
        more : own_classes next ≡ class_count rows (suc now.rounds)
        more =
            ap (λ (l : List ℕ). count_below (length next - 1) (λ s. eqb (byte l (suc s)) (suc s))) (e ∙ next-is now)
            ∙ ap (λ (n : ℕ). count_below n (λ s. eqb (byte (0 ∷ classes_after rows (suc now.rounds)) (suc s)) (suc s)))
            (ap (λ (k : ℕ). k - 1) long ∙ sym (rows-count raw (length array - 1) w now.table))

        go : Dec (class_count rows now.rounds < class_count rows (suc now.rounds)) → length next - own_classes next < length array - own_classes array
        go (yes l) = omega (arith, long, more, own_classes_law, count-below_le (length next - 1) (λ s. eqb (byte next (suc s)) (suc s)), now.table.some)
        go (no l) =
            let same = settled_by-count w rows (is_table_law now) now.rounds (omega arith) in
            let equal : array ≡ next = now.are ∙ ap (λ (l : List ℕ). 0 ∷ l) (sym same) ∙ sym (e ∙ next-is now) in
            absurd (differ equal)

    -- a round that changes nothing is the last
    pub round-last : (old : List ℕ) → length array ≡ length old → array ≡ next → next ≡ last_round raw w old
    round-last old same_length equal =
        let still : refine rows (classes_after rows now.rounds) ≡ classes_after rows now.rounds =
        ap (λ (l : List ℕ). drop 1 l) (sym (e ∙ next-is now) ∙ sym equal ∙ now.are) in
        let last : array ≡ last_round raw w array = now.are ∙ ap (λ (l : List ℕ). 0 ∷ l) (sym (classes_settled w rows (is_table_law now) now.rounds still)) in
        sym equal ∙ last ∙ ap (λ (k : ℕ). 0 ∷ classes (rows_in raw (k - 1) w)) same_length
