-- The comparison of two books that pass and have one frame is right: same exactly when the same histories are possible in both, and else the earliest
-- history possible in just one, whose length is 1 to n + n' - 1. It ends in compare_right.
use mathlib.Core.Path.{◌≡◌, sym, ap, ◌∙◌}
use mathlib.Core.Logic.{◌↔◌}
use mathlib.Core.List.{List}
use mathlib.Core.Option.{none, some}
use Prim.Native.Nat.{ℕ, ◌+◌, ◌*◌, ◌≤◌, ◌<◌}
use native.Mathlib.Omega.{arith}
use lib.ListN.{length, drop}
use lib.Seq.{get_or-take, get_or-drop}
use Rattle.automaton.specs.History.{History, Earliest}
use Rattle.automaton.specs.Machine.{possible, SameHistories, in_one}
use Rattle.automaton.proofs.Below.{is_true}
use Rattle.automaton.proofs.Congruence.{fold_below-same}
use Rattle.automaton.proofs.Separation.{Separates}
use Rattle.automaton.proofs.Pair.{difference-none, difference-some}
use Rattle.definitions.specs.Bytes.{byte, times, product}
use Rattle.definitions.specs.Book.{fields, count, frame, requests, width, states, book_machine}
use Rattle.definitions.specs.Refusal.{book_refusal}
use Rattle.definitions.specs.Compare.{comparison}
use Rattle.definitions.specs.Demands.{InJustOne, CompareIsRight}
use Rattle.definitions.specs.Checked.{BookPassed}
use Rattle.definitions.proofs.Accepted.{book-passed}
use Rattle.definitions.proofs.BookSteps.{has-states}

-- ---- the frame fixes the width
frame_byte : (b : List ℕ) (i : ℕ) → i < 6 → byte (frame b) i ≡ byte b (5 + i)
frame_byte b i l = get_or-take 6 (drop 5 b) i 0 l ∙ get_or-drop 5 b i 0

module _ (b d : List ℕ) (same : frame b ≡ frame d) where
  same_byte : (i : ℕ) → i < 6 → byte b (5 + i) ≡ byte d (5 + i)
  same_byte i l = sym (frame_byte b i l) ∙ ap (λ (f : List ℕ). byte f i) same ∙ frame_byte d i l

  same_count : (f : ℕ) → f < 4 → count b f ≡ count d f
  same_count f l =
      let place : 5 + (2 + f) ≡ 7 + f = omega arith in
      rw place at (same_byte (2 + f) (omega arith))

  same-requests : fields d ≤ 4 → requests b ≡ requests d
  same-requests few =
      ap (λ (n : ℕ). product n (count b)) (same_byte 1 (omega arith))
      ∙ fold_below-same (times (count b)) (times (count d)) 1 (fields d) (λ f q l. ap (λ (n : ℕ). q * n) (same_count f (omega arith)))

  pub same_width_law : fields d ≤ 4 → width b ≡ width d
  same_width_law few = omega (arith, same_byte 0 (omega arith), same-requests few)

-- ---- the comparison
module _ (b d : List ℕ) (first : BookPassed b) (second : BookPassed d) (same : frame b ≡ frame d) where
  wide : width b ≡ width d
  wide = same_width_law b d same second.layout.header.fields_most

  -- a pair of states is at most 127 × 128 + 127
  room : states b * 128 + states d ≤ 16383
  room = omega (arith, first.layout.header.states_most, second.layout.header.states_most)

  compared-none : (comparison b d ≡ none) ↔ SameHistories (book_machine b) (book_machine d)
  unfolding comparison
  compared-none =
      difference-none (book_machine b) (book_machine d) (states b) (states d) (has-states b first) (has-states d second) wide 128 16383
      (omega (arith, second.layout.header.states_most)) room

  compared-some : (h : History) → comparison b d ≡ some h
      → Earliest (Separates (book_machine b) (book_machine d)) h × (1 ≤ length h) × (length h < states b + states d)
  unfolding comparison
  compared-some =
      difference-some (book_machine b) (book_machine d) (states b) (states d) (has-states b first) (has-states d second) wide 128 16383
      (omega (arith, second.layout.header.states_most)) room

  in_just_one : (h : History) → Earliest (Separates (book_machine b) (book_machine d)) h → Earliest (InJustOne (book_machine b) (book_machine d)) h
  in_just_one h e = (
    is_true (in_one (possible (book_machine b) h) (possible (book_machine d) h)) e.0,
    λ k p. e.1 k (rw p tt),
  )

pub compare_right : (b d : List ℕ) → book_refusal b ≡ 0 → book_refusal d ≡ 0 → frame b ≡ frame d → CompareIsRight b d
compare_right b d passes passes' same =
    let first = (book-passed b).0 passes in
    let second = (book-passed d).0 passes' in
    record {
      compared = record {
        same = compared-none b d first second same;
        differ = λ h e. in_just_one b d first second same h (compared-some b d first second same h e).0;
      };
      short = λ h e. let r = compared-some b d first second same h e in (r.1, r.2);
    }
