-- Sets of states as words: what a word has, and which states it does not have.
use mathlib.Core.Path.{◌≡◌, refl, sym, ap, ◌∙◌}
use mathlib.Core.Bool.{Bool, true, false, not, or-true, false≢true}
use mathlib.Core.Logic.{◌⊎◌, inl, inr}
use mathlib.Core.List.{List}
use Prim.Native.Nat.{ℕ, zero, suc, ◌+◌, ◌*◌, ◌/◌, ◌%◌, ◌^◌, ◌<◌, min}
use native.Mathlib.Nat.{zero-div}
use native.Mathlib.Omega.{arith}
use lib.Bits.{bit_and, bit_or, and_shr, and_step}
use lib.Dec.{eqb}
use lib.ListN.{length, set, drop}
use lib.Seq.{ext_get_or, get_or-take, get_or-set_same, get_or-set_other}
use borrow.Author.Tests.{eqb-true, eq-eqb}
use Rattle.automaton.specs.Below.{fold_below}
use Rattle.automaton.proofs.Below.{below_suc, all-below_at}
use Rattle.automaton.proofs.Congruence.{fold_below-same}
use Rattle.definitions.specs.Rows.{row_in}
use Rattle.definitions.specs.Bytes.{byte, bit}
use Rattle.definitions.specs.Situation.{empty_set}
use Rattle.definitions.proofs.Sets.{Has, bit-empty, bit-union, has_single, has-gathered}
use Rattle.refine.specs.StateWords.{all_states, with_state, with_entry, leads_to, row_word, RowWords, with_moved, moved_states}

-- ---- two words that share no bit
one_alone : (x y : ℕ) → x ≡ 1 → y < 2 → min x y ≡ 0 → eqb y 1 ≡ false
one_alone x zero e l z = refl
one_alone x (suc y) e l z = absurd (omega arith)

no_common : (a b u : ℕ) → bit_and a b ≡ 0 → Has a u → bit b u ≡ false
no_common a b u z h =
    let none : bit_and (a / 2 ^ u) (b / 2 ^ u) ≡ 0 = sym (and_shr a b u) ∙ ap (λ (x : ℕ). x / 2 ^ u) z ∙ zero-div (2 ^ u) in
    one_alone (a / 2 ^ u % 2) (b / 2 ^ u % 2) (eqb-true _ _ h) (omega arith) (omega (arith, and_step (a / 2 ^ u) (b / 2 ^ u)))

-- the same of the union of two words and a third one
pub first_misses : (a b m u : ℕ) → bit_and (bit_or a b) m ≡ 0 → Has a u → bit m u ≡ false
first_misses a b m u z h = no_common (bit_or a b) m u z (bit-union a b u ∙ rw h)

pub second_misses : (a b m u : ℕ) → bit_and (bit_or a b) m ≡ 0 → Has b u → bit m u ≡ false
second_misses a b m u z h = no_common (bit_or a b) m u z (bit-union a b u ∙ rw h (or-true (bit a u)))

-- ---- the states that a row leads to
pub leads-has : (row : List ℕ) (w c : ℕ) → c < w → Has (leads_to row w) (byte row c / 2)
leads-has row w c l =
    (has-gathered (λ k. true) (λ k. 2 ^ (byte row k / 2)) w (byte row c / 2)).1 (c, l, refl, (has_single (byte row c / 2) (byte row c / 2)).1 refl)

-- the word of a row of a table
pub row-word-of : (raw : List ℕ) (w i : ℕ) (row : List ℕ) → row ≡ row_in raw w i → length row ≡ w → leads_to row (length row) ≡ row_word raw w i
row-word-of raw w i row e long =
    rw long (ap (λ (l : List ℕ). leads_to l w) e
    ∙ fold_below-same (with_entry (row_in raw w i)) (with_entry (drop (i * w) raw)) empty_set w (λ c word l. ap (λ (x : ℕ). with_state x word) (get_or-take w (drop (i * w) raw) c 0 l)))

-- the words of the rows, one after another
pub words_more : (raw : List ℕ) (w : ℕ) (leads : List ℕ) (i x : ℕ) → RowWords raw w i leads → i + 1 < length leads → x ≡ row_word raw w i
    → RowWords raw w (i + 1) (set leads (i + 1) x)
words_more raw w leads i x old l e k b = go (below_suc k i (omega arith))
  where
    go : (k < i) ⊎ (k ≡ i) → byte (set leads (i + 1) x) (suc k) ≡ row_word raw w k
    go (inl m) = get_or-set_other leads (i + 1) (suc k) x 0 (omega arith) ∙ old k m
    go (inr q) =
        let here : suc k ≡ i + 1 = omega arith in
        ap (byte (set leads (i + 1) x)) here ∙ get_or-set_same leads (i + 1) x 0 l ∙ e ∙ ap (row_word raw w) (sym q)

-- ---- the states that moved
pub all_have : (u : ℕ) → u < 64 → Has all_states u
all_have = all-below_at (bit all_states) 64 refl

module _ (old new : List ℕ) where
  pub unmoved : (x : ℕ) → x < length old → bit (moved_states old new) (x / 2) ≡ false → byte old x ≡ byte new x
  unmoved x l e = go (eqb (byte old x) (byte new x)) refl
    where
      go : (b : Bool) → eqb (byte old x) (byte new x) ≡ b → byte old x ≡ byte new x
      go true q = eqb-true (byte old x) (byte new x) q
      go false q =
          let has = (has-gathered (λ k. not (eqb (byte old k) (byte new k))) (λ k. 2 ^ (k / 2)) (length old) (x / 2)).1 (x, l, ap not q, (has_single (x / 2) (x / 2)).1 refl) in
          absurd (false≢true (sym e ∙ has))

  pub none-moved : length old ≡ length new → moved_states old new ≡ 0 → old ≡ new
  none-moved long z = ext_get_or 0 old new long (λ x l. unmoved x l (ap (λ (m : ℕ). bit m (x / 2)) z ∙ bit-empty (x / 2)))

moved_same : (l : List ℕ) (n : ℕ) → fold_below n empty_set (with_moved l l) ≡ 0
moved_same l zero = refl
moved_same l (suc n) = rw (eq-eqb (byte l n) (byte l n) refl) (moved_same l n)

pub same-moved : (old new : List ℕ) → old ≡ new → moved_states old new ≡ 0
same-moved old new e = ap (moved_states old) (sym e) ∙ moved_same old (length old)
