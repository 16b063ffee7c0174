-- Whether every event is possible, column by column: a column's entries are states in all rows exactly where the least of them is not 0.
use mathlib.Core.Path.{◌≡◌, ap, ◌∙◌}
use mathlib.Core.Bool.{true}
use mathlib.Core.List.{List}
use Prim.Native.Nat.{ℕ, ◌+◌, ◌*◌, ◌≤◌, ◌<◌}
use native.Mathlib.Nat.{zero-add}
use native.Mathlib.Decide.{dec_lt}
use native.Mathlib.Omega.{arith}
use lib.ListN.{length, replicate, length-replicate, get_or-replicate}
use borrow.Author.Tests.{leb-true, le-leb}
use Rattle.automaton.specs.Below.{all_below, list_below}
use Rattle.automaton.proofs.Below.{same_truth, all_below_law, all-below_at, length-list-below, get_or-list-below}
use Rattle.definitions.specs.Bytes.{byte}
use Rattle.definitions.specs.Book.{events, width, states}
use Rattle.bookcheck.specs.Entries.{is_possible, row_possible, events_possible, lesser}

module _ (b : List ℕ) where
  -- the entry of column c in row i, counted from 0
  abbrev entry_of : ℕ → ℕ → ℕ
  entry_of c i = byte b (12 + i * width b + c)

  -- eight bytes, each at most the entries of its column in the first i rows, and 0 only where one of these is
  pub record Columns (i : ℕ) (least : List ℕ) : Type 0 where
    pub eight : length least ≡ 8
    pub most : (c r : ℕ) → c < 8 → r < i → byte least c ≤ entry_of c r
    pub some : (c : ℕ) → c < 8 → ((r : ℕ) → r < i → 1 ≤ entry_of c r) → 1 ≤ byte least c

  pub columns_begun : Columns 0 (replicate 8 255)
  columns_begun = record {
    eight = length-replicate {A = ℕ} 8 255;
    most = λ c r l h. absurd (omega arith);
    some = λ c l all. omega (arith, get_or-replicate {A = ℕ} 8 c 255 0 l);
  }

  -- one row more
  pub columns_turn : {i : ℕ} {least lower : List ℕ} → Columns i least → lower ≡ list_below 8 (lesser least b (12 + i * width b)) → Columns (i + 1) lower
  columns_turn {i} {least} {lower} now e = record {
    eight = ap length e ∙ length-list-below f 8;
    most = λ c r l h. below c r l h (dec_lt r i);
    some = λ c l all. omega (arith, is c l, now.some c l (λ r h. all r (omega arith)), all i (omega arith));
  }
    where
      f : ℕ → ℕ
      f = lesser least b (12 + i * width b)

      is : (c : ℕ) → c < 8 → byte lower c ≡ f c
      is c l = ap (λ (k : List ℕ). byte k c) e ∙ get_or-list-below f 8 c 0 l

      below : (c r : ℕ) → c < 8 → r < i + 1 → Dec (r < i) → byte lower c ≤ entry_of c r
      below c r l h (yes p) = omega (arith, is c l, now.most c r l p)
      below c r l h (no p) = let last : r ≡ i = omega arith in rw last (omega (arith, is c l))

  -- all rows
  pub columns_done : {least : List ℕ} → Columns (states b) least → events b ≤ 8 → all_below (events b) (is_possible least 0) ≡ events_possible b
  columns_done {least} now few =
      same_truth (all_below (events b) (is_possible least 0)) (events_possible b)
      (λ t. all_below_law (row_possible b) (states b) (λ i l. all_below_law (is_possible b (12 + i * width b)) (events b)
      (λ c p. le-leb 1 (entry_of c i) (omega (arith, now.most c i (omega arith) l, front t c p)))))
      (λ t. all_below_law (is_possible least 0) (events b) (λ c p. rw zero-add (le-leb 1 (byte least c) (now.some c (omega arith)
      (λ i l. leb-true 1 (entry_of c i) (all-below_at (is_possible b (12 + i * width b)) (events b) (all-below_at (row_possible b) (states b) t i l) c p))))))
    where
      front : all_below (events b) (is_possible least 0) ≡ true → (c : ℕ) → c < events b → 1 ≤ byte least c
      front t c p = rw zero-add at (leb-true 1 (byte least (0 + c)) (all-below_at (is_possible least 0) (events b) t c p))
