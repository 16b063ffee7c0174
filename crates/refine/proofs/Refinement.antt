-- The rounds of refinement with the word of the states that the last round moved: it is 0 when they have come to their end.
use mathlib.Core.Path.{◌≡◌, refl, sym, ap, ◌∙◌}
use mathlib.Core.Bool.{Bool, cond, true, false}
use mathlib.Core.List.{List}
use Prim.Native.Nat.{ℕ, suc, ◌+◌, ◌-◌, ◌<◌, ◌≤◌}
use native.Mathlib.Omega.{arith}
use lib.Dec.{eqb}
use lib.ListN.{length}
use borrow.Author.Tests.{eqb-true, eqb-false, ne_eqb}
use Rattle.definitions.specs.Rows.{TableIn}
use Rattle.refine.specs.Classes.{last_round}
use Rattle.refine.specs.Rounds.{InRounds, KeptClasses, one_class, next_round}
use Rattle.refine.specs.StateWords.{all_states, RowWords, moved_states}
use Rattle.refine.proofs.StateWords.{none-moved, same-moved}
use Rattle.refine.proofs.Rounds.{next_length_law}
use Rattle.refine.proofs.RoundSequence.{own_classes, rounds_begun, round-more, round-less, round-last}
use Rattle.refine.proofs.KeptClasses.{kept_begun, kept-turn}

-- where the loop over the rounds is: `old` is the array of classes where it begins
pub record AfterRounds (raw : List ℕ) (w : ℕ) (leads old classes next : List ℕ) (moved : ℕ) : Type 0 where
  pub rounds : InRounds raw w classes
  pub words : RowWords raw w (length classes - 1) leads
  pub kept : KeptClasses raw w leads moved classes
  pub long : length classes ≡ length old
  pub room : length next ≡ length classes
  pub done : moved ≡ 0 → classes ≡ last_round raw w old

-- how many rounds are left, at most
abbrev pub rounds_left : List ℕ → ℕ → ℕ
rounds_left classes moved = (length classes - own_classes classes) + cond (eqb moved 0) 0 1

pub refining_begun : {raw : List ℕ} {w n : ℕ} {leads classes : List ℕ} (next : List ℕ) → TableIn raw n w → length classes ≡ suc n → length classes ≤ 128
    → classes ≡ one_class (length classes) → 128 ≤ length leads → RowWords raw w n leads → length next ≡ length classes
    → AfterRounds raw w leads classes classes next all_states
refining_begun {raw} {w} {n} {leads} {classes} next table size few one fits words room =
    let left : length classes - 1 ≡ n = omega arith in
    let table_here : TableIn raw (length classes - 1) w = rw left table in
    let rounds : InRounds raw w classes = rounds_begun table_here few one in
    let words_here : RowWords raw w (length classes - 1) leads = rw left words in
    record { rounds = rounds; words = words_here; kept = kept_begun leads rounds (omega arith) words_here; long = refl; room = room; done = λ z. absurd (omega arith) }

-- one round more
module _ {raw : List ℕ} {w : ℕ} {leads old classes next next' : List ℕ} {moved : ℕ} (now : AfterRounds raw w leads old classes next moved)
    (e : next' ≡ next_round raw w classes) where
  same : length next' ≡ length classes
  same = ap length e ∙ next_length_law now.rounds

  pub refining_turn : {classes' : List ℕ} {moved' : ℕ} → classes' ≡ next' → moved' ≡ moved_states classes (next_round raw w classes) → AfterRounds raw w leads old classes' next' moved'
  refining_turn {classes'} {moved'} k m = rw (k, m, ← e) record {
    rounds = round-more now.rounds e;
    words = rw same now.words;
    kept = kept-turn leads now.rounds now.kept.words now.words e;
    long = same ∙ now.long;
    room = refl;
    done = λ z. round-last now.rounds e old now.long (none-moved classes next' (sym same) z);
  }

  pub refining_less : {classes' : List ℕ} {moved' : ℕ} → classes' ≡ next' → moved' ≡ moved_states classes (next_round raw w classes) → (moved ≡ 0 → ⊥)
      → rounds_left classes' moved' < rounds_left classes moved
  refining_less {classes'} {moved'} k m some = rw (k, ne_eqb moved 0 some) (go (eqb moved' 0) refl)
    where
      by : moved' ≡ moved_states classes next'
      by = m ∙ ap (moved_states classes) (sym e)

      go : (b : Bool) → eqb moved' 0 ≡ b → rounds_left next' moved' < (length classes - own_classes classes) + 1
      go true q =
          let equal : classes ≡ next' = none-moved classes next' (sym same) (sym by ∙ eqb-true moved' 0 q) in
          rw (q, ← equal) (omega arith)
      go false q =
          let less = round-less now.rounds e (λ equal. eqb-false moved' 0 q (by ∙ same-moved classes next' equal)) in
          rw q (omega arith)
