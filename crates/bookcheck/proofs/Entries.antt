-- Row 14 in two tests: the greatest entry is at most n, and every event is possible.
use mathlib.Core.Path.{◌≡◌, refl, ◌∙◌}
use mathlib.Core.Bool.{Bool, true, false}
use mathlib.Core.Logic.{◌⊎◌, inl, inr}
use mathlib.Core.List.{List}
use Prim.Native.Nat.{ℕ, zero, suc, max, ◌+◌, ◌-◌, ◌*◌, ◌≤◌, ◌<◌}
use native.Mathlib.Nat.{not-suc-le-zero}
use native.Mathlib.Decide.{dec_lt}
use native.Mathlib.Numerals.{add-one}
use native.Mathlib.Omega.{arith}
use lib.ListN.{length, take, drop, get_or}
use lib.Seq.{get_or-take, get_or-drop}
use borrow.Author.Tests.{leb-true, le-leb}
use Rattle.automaton.proofs.Below.{same_truth, below_suc, all_below_law, all-below_at}
use Rattle.definitions.specs.Bytes.{byte}
use Rattle.definitions.specs.Book.{events, width, states, entry}
use Rattle.definitions.specs.Refusal.{entries_hold}
use Rattle.bookcheck.specs.Entries.{greatest, is_possible, row_possible, events_possible}
use Rattle.definitions.specs.Checked.{BookLayout}
use Rattle.definitions.proofs.Accepted.{entries-true, entries_hold_law}
use Rattle.book.proofs.Places.{row_inside, entry_at, column_of}

-- entry i of the n bytes from byte `at` on, as the code takes them
pub entry_in_part : (b : List ℕ) (at n i : ℕ) → i < n → get_or (take (at + n - at) (drop at b)) i 0 ≡ byte b (at + i)
entry_in_part b at n i l = let e : i < at + n - at = omega arith in get_or-take (at + n - at) (drop at b) i 0 e ∙ get_or-drop at b i 0

pub entry_after_header : (b : List ℕ) (i : ℕ) → i < length b - 12 → get_or (take (length b - 12) (drop 12 b)) i 0 ≡ byte b (12 + i)
entry_after_header b i l = get_or-take (length b - 12) (drop 12 b) i 0 l ∙ get_or-drop 12 b i 0

-- ---- the greatest entry
module _ (b : List ℕ) where
  -- one entry more
  pub greatest_more : (i most more : ℕ) → most ≡ greatest b i → more ≡ max most (byte b (12 + i)) → more ≡ greatest b (i + 1)
  greatest_more i most more e h = rw add-one (rw e at h)

  greatest-above : (k j : ℕ) → j < k → byte b (12 + j) ≤ greatest b k
  greatest-above zero j l = absurd (not-suc-le-zero l)
  greatest-above (suc k) j l = go (greatest-above k j) (below_suc j k l)
    where
      go : (j < k → byte b (12 + j) ≤ greatest b k) → (j < k) ⊎ (j ≡ k) → byte b (12 + j) ≤ max (greatest b k) (byte b (12 + k))
      go ih (inl p) = omega (arith, ih p)
      go ih (inr e) = rw e (omega arith)

  greatest-reached : (k n : ℕ) → n < greatest b k → (j : ℕ) × (j < k) × (n < byte b (12 + j))
  greatest-reached zero n l = absurd (not-suc-le-zero l)
  greatest-reached (suc k) n l = go (dec_lt n (greatest b k)) (greatest-reached k n)
    where
      go : Dec (n < greatest b k) → (n < greatest b k → (j : ℕ) × (j < k) × (n < byte b (12 + j))) → (j : ℕ) × (j < suc k) × (n < byte b (12 + j))
      go (yes p) ih = let r = ih p in (r.0, omega (arith, r.1), r.2)
      go (no p) ih = (k, omega arith, omega arith)

-- ---- what the tests say of each entry
module _ (b : List ℕ) where
  abbrev Possible : Type 0
  Possible = (s c : ℕ) → 1 ≤ s → s ≤ states b → c < events b → 1 ≤ entry b s c

  possible_in_rows : events_possible b ≡ true → Possible
  possible_in_rows e zero c some l p = absurd (omega arith)
  possible_in_rows e (suc i) c some l p =
      rw entry_at
      (leb-true 1 (byte b (12 + i * width b + c))
      (all-below_at (is_possible b (12 + i * width b)) (events b) (all-below_at (row_possible b) (states b) e i l) c p))

  possible-by-rows : Possible → events_possible b ≡ true
  possible-by-rows all =
      all_below_law (row_possible b) (states b) (λ i l. all_below_law (is_possible b (12 + i * width b)) (events b)
      (λ c p. le-leb 1 (byte b (12 + i * width b + c)) (rw entry_at at (all (suc i) c (omega arith) l p))))

-- ---- both tests together
module _ (b : List ℕ) (laid : BookLayout b) where
  inside-rows : (i c : ℕ) → i < states b → c < width b → i * width b + c < length b - 12
  inside-rows i c l p = omega (arith, row_inside b laid (width b) refl i l)

  -- an entry above n
  pub too_great : states b < greatest b (length b - 12) → false ≡ entries_hold b
  too_great above = go (entries_hold b) refl (greatest-reached b (length b - 12) (states b) above)
    where
      go : (t : Bool) → entries_hold b ≡ t → (j : ℕ) × (j < length b - 12) × (states b < byte b (12 + j)) → false ≡ t
      go false e r = refl
      go true e (j, l, great) =
          let here = column_of (states b) (width b) j (omega (arith, laid.exact)) in
          let place : 12 + here.row * width b + here.column ≡ 12 + j = omega (arith, here.is) in
          let low = (entries-true b e (suc here.row) here.column (omega arith) here.in_row here.in_width).0 in
          absurd (omega (arith, rw (entry_at, place) at low))

  -- no entry above n: the events remain
  pub none_great : greatest b (length b - 12) ≤ states b → events_possible b ≡ entries_hold b
  none_great few =
      same_truth (events_possible b) (entries_hold b) (λ e. entries_hold_law b low (possible_in_rows b e))
      (λ e. possible-by-rows b (λ s c some most l. (entries-true b e s c some most (omega arith)).1 l))
    where
      low : (s c : ℕ) → 1 ≤ s → s ≤ states b → c < width b → entry b s c ≤ states b
      low zero c some l p = absurd (omega arith)
      low (suc i) c some l p =
          let place : 12 + i * width b + c ≡ 12 + (i * width b + c) = omega arith in
          rw (entry_at, place) (omega (arith, greatest-above b (length b - 12) (i * width b + c) (inside-rows i c l p)))
