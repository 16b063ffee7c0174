-- What acceptance gives: the plain facts about a policy that is not refused, and about a book that the checks pass, for which they are also enough.
use mathlib.Core.Path.{◌≡◌, refl}
use mathlib.Core.Bool.{true, ◌||◌}
use mathlib.Core.Logic.{◌↔◌, ◌⊎◌, inl, inr}
use mathlib.Core.List.{List}
use Prim.Native.Nat.{ℕ, zero, suc, ◌+◌, ◌*◌, ◌^◌, ◌≤◌, ◌<◌}
use native.Mathlib.Omega.{arith}
use native.Mathlib.Decide.{dec_lt}
use lib.Dec.{leb, eqb}
use lib.ListN.{length}
use borrow.Author.Tests.{leb-true, ltb-true, eqb-true, le-leb, lt-leb, lt-ltb, le-ltb, eq-eqb}
use Rattle.automaton.specs.Below.{all_below}
use Rattle.automaton.proofs.Below.{and-true, or-true, all_below_law, all-below_at}
use Rattle.definitions.specs.Bytes.{byte, version}
use Rattle.definitions.specs.Policy.{events, fields, variables, rules, count, requests, width, starting_value, exact_length, rule, mask, decision, ge, lt, change, event_change}
use Rattle.definitions.specs.Valuation.{valuations}
use Rattle.definitions.specs.Book as B
use Rattle.definitions.specs.Refusal.{version_holds, ranges_hold, count_in_range, counts_hold, start_holds, starts_hold, rule_passes, all_rules, mask_holds, rule_masks_hold, masks_hold, test_holds, rule_holds, event_change_holds, event_holds, values_hold, file_checks, file_refusal, situations, row11, policy_refusal}
use Rattle.definitions.specs.Refusal.{count_holds, header_holds, layout_holds, entry_holds, row_holds, entries_hold, book_checks, book_refusal}
use Rattle.definitions.proofs.Tests.{both_true, judge-zero, then_judge-zero, within-true, mark-true, version-true}
use Rattle.definitions.proofs.CheckLists.{PassedBefore, row_test, row-passes, rows_from_law}
use Rattle.definitions.proofs.Radix.{product-some}
use Rattle.definitions.proofs.Requests.{some_request_law}
use Rattle.definitions.proofs.Valuations.{some-valuation}
use Rattle.definitions.specs.Checked.{BookHeader, BookLayout, BookPassed}

-- a policy file that no row before row 11 refuses
pub record FileAccepted (p : List ℕ) : Type 0 where
  pub long : 9 ≤ length p
  pub mark : (byte p 0 ≡ 0x50) × (byte p 1 ≡ 0x4F) × (byte p 2 ≡ 0x4C)
  pub version : (byte p 3 ≡ 0) × ((byte p 4 ≡ 1) ⊎ (byte p 4 ≡ 2))
  pub events_most : events p ≤ 8
  pub fields_some : 1 ≤ fields p
  pub fields_most : fields p ≤ 4
  pub variables_most : variables p ≤ 4
  pub rules_most : rules p ≤ 32
  pub exact : length p ≡ exact_length p
  pub count_some : (f : ℕ) → f < fields p → 1 ≤ count p f
  pub count_most : (f : ℕ) → f < fields p → count p f ≤ 16
  pub requests_some : 1 ≤ requests p
  pub requests_most : requests p ≤ 64
  pub width_most : width p ≤ 136
  pub start_most : (j : ℕ) → j < variables p → starting_value p j ≤ 63
  pub mask_some : (k f : ℕ) → k < rules p → f < fields p → 1 ≤ mask (rule p k) f
  pub mask_most : (k f : ℕ) → k < rules p → f < fields p → mask (rule p k) f < 2 ^ count p f
  pub decision_most : (k : ℕ) → k < rules p → decision p (rule p k) ≤ 1
  pub ge_most : (k j : ℕ) → k < rules p → j < variables p → ge p (rule p k) j ≤ 63
  pub lt_most : (k j : ℕ) → k < rules p → j < variables p → lt p (rule p k) j ≤ 63
  pub change_most : (k j : ℕ) → k < rules p → j < variables p → change p (rule p k) j ≤ 2
  pub event_change_most : (e j : ℕ) → e < events p → j < variables p → event_change p e j ≤ 2
  pub valuations_some : 1 ≤ valuations p
  pub valuations_most : valuations p ≤ 64

-- ---- policies
module _ (p : List ℕ) where
  -- ---- what the tests of rows 4 to 9 and 17 say
  version_holds_law : version_holds p ≡ true → (byte p 3 ≡ 0) × ((byte p 4 ≡ 1) ⊎ (byte p 4 ≡ 2))
  version_holds_law e = go (or-true (eqb (version p) 1) (eqb (version p) 2) e)
    where
      go : (eqb (version p) 1 ≡ true) ⊎ (eqb (version p) 2 ≡ true) → (byte p 3 ≡ 0) × ((byte p 4 ≡ 1) ⊎ (byte p 4 ≡ 2))
      go (inl h) = let both = (version-true p 1 (omega arith)).0 h in (both.0, inl both.1)
      go (inr h) = let both = (version-true p 2 (omega arith)).0 h in (both.0, inr both.1)

  pub ranges_true : ranges_hold p ≡ true → (events p ≤ 8) × (1 ≤ fields p) × (fields p ≤ 4) × (variables p ≤ 4) × (rules p ≤ 32)
  ranges_true e =
      let three = and-true _ _ e in
      let two = and-true _ _ three.0 in
      let one = and-true _ _ two.0 in
      let f = (within-true 1 (fields p) 4).0 one.1 in
      (leb-true (events p) 8 one.0, f.0, f.1, leb-true (variables p) 4 two.1, leb-true (rules p) 32 three.1)

  pub counts-true : counts_hold p ≡ true → ((f : ℕ) → f < fields p → (1 ≤ count p f) × (count p f ≤ 16)) × (requests p ≤ 64)
  counts-true e =
      let both = and-true _ _ e in
      (λ f l. (within-true 1 (count p f) 16).0 (all-below_at (count_in_range p) (fields p) both.0 f l), leb-true (requests p) 64 both.1)

  pub starts-true : starts_hold p ≡ true → (j : ℕ) → j < variables p → starting_value p j ≤ 63
  starts-true e j l = leb-true (starting_value p j) 63 (all-below_at (start_holds p) (variables p) e j l)

  pub masks-true : masks_hold p ≡ true → (k f : ℕ) → k < rules p → f < fields p → (1 ≤ mask (rule p k) f) × (mask (rule p k) f < 2 ^ count p f)
  masks-true e k f lk lf =
      let holds = all-below_at (mask_holds p (rule p k)) (fields p) (all-below_at (rule_passes p (rule_masks_hold p)) (rules p) e k lk) f lf in
      let both = and-true _ _ holds in
      (leb-true 1 (mask (rule p k) f) both.0, ltb-true (mask (rule p k) f) (2 ^ count p f) both.1)

  pub rule-true : values_hold p ≡ true → (k : ℕ) → k < rules p → (decision p (rule p k) ≤ 1)
      × ((j : ℕ) → j < variables p → (ge p (rule p k) j ≤ 63) × (lt p (rule p k) j ≤ 63) × (change p (rule p k) j ≤ 2))
  rule-true e k l = (leb-true (decision p (rule p k)) 1 holds.0, test)
    where
      holds : (leb (decision p (rule p k)) 1 ≡ true) × (all_below (variables p) (test_holds p (rule p k)) ≡ true)
      holds = and-true _ _ (all-below_at (rule_passes p (rule_holds p)) (rules p) (and-true _ _ e).0 k l)

      test : (j : ℕ) → j < variables p → (ge p (rule p k) j ≤ 63) × (lt p (rule p k) j ≤ 63) × (change p (rule p k) j ≤ 2)
      test j m =
          let two = and-true _ _ (all-below_at (test_holds p (rule p k)) (variables p) holds.1 j m) in
          let one = and-true _ _ two.0 in
          (leb-true (ge p (rule p k) j) 63 one.0, leb-true (lt p (rule p k) j) 63 one.1, leb-true (change p (rule p k) j) 2 two.1)

  pub event_true : values_hold p ≡ true → (e j : ℕ) → e < events p → j < variables p → event_change p e j ≤ 2
  event_true h e j le lj =
      let holds = (and-true (all_rules p (rule_holds p)) (all_below (events p) (event_holds p)) h).1 in
      leb-true (event_change p e j) 2 (all-below_at (event_change_holds p e) (variables p) (all-below_at (event_holds p) (events p) holds e le) j lj)

  -- ---- what acceptance gives
  pub file_accepted : file_refusal p ≡ 0 → FileAccepted p
  unfolding file_refusal
  file_accepted e =
      let passes : (n : ℕ) → row_test n file_checks p ≡ true = λ n. row-passes p n file_checks refl e in
      let ranges = ranges_true (passes 5) in
      let counts = counts-true (passes 7) in
      record {
        long = leb-true 9 (length p) (passes 2);
        mark = (mark-true p 0x50 0x4F 0x4C).0 (passes 3);
        version = version_holds_law (passes 4);
        events_most = ranges.0;
        fields_some = ranges.1;
        fields_most = ranges.2;
        variables_most = ranges.3;
        rules_most = ranges.4;
        exact = eqb-true (length p) (exact_length p) (passes 6);
        count_some = λ f l. (counts.0 f l).0;
        count_most = λ f l. (counts.0 f l).1;
        requests_some = some_request_law p (λ f l. (counts.0 f l).0);
        requests_most = counts.1;
        width_most = omega (arith, ranges.0, counts.1);
        start_most = starts-true (passes 17);
        mask_some = λ k f lk lf. (masks-true (passes 8) k f lk lf).0;
        mask_most = λ k f lk lf. (masks-true (passes 8) k f lk lf).1;
        decision_most = λ k l. (rule-true (passes 9) k l).0;
        ge_most = λ k j lk lj. ((rule-true (passes 9) k lk).1 j lj).0;
        lt_most = λ k j lk lj. ((rule-true (passes 9) k lk).1 j lj).1;
        change_most = λ k j lk lj. ((rule-true (passes 9) k lk).1 j lj).2;
        event_change_most = event_true (passes 9);
        valuations_some = some-valuation p;
        valuations_most = leb-true (valuations p) 64 (passes 10);
      }

  pub policy_accepted : policy_refusal p ≡ 0 → (file_refusal p ≡ 0) × (length (situations p) ≤ 127)
  unfolding policy_refusal row11
  policy_accepted e =
      let rows = (then_judge-zero (file_refusal p) (row11 p)).0 e in
      let r11 = (judge-zero 10 (leb (length (situations p)) 127) 0).0 rows.1 in
      (rows.0, leb-true (length (situations p)) 127 r11.0)

-- ---- books
module _ (b : List ℕ) where
  -- ---- the layout
  count_present : all_below 4 (count_holds b) ≡ true → B.fields b ≤ 4 → (f : ℕ) → f < B.fields b → (1 ≤ B.count b f) × (B.count b f ≤ 16)
  count_present e few f l = (within-true 1 (B.count b f) 16).0 (rw (lt-ltb f (B.fields b) l) at (all-below_at (count_holds b) 4 e f (omega arith)))

  count_absent_law : all_below 4 (count_holds b) ≡ true → (f : ℕ) → B.fields b ≤ f → f < 4 → B.count b f ≡ 0
  count_absent_law e f l m = eqb-true (B.count b f) 0 (rw (le-ltb f (B.fields b) l) at (all-below_at (count_holds b) 4 e f m))

  count_holds_law : (f : ℕ) → (f < B.fields b → (1 ≤ B.count b f) × (B.count b f ≤ 16)) → (B.fields b ≤ f → B.count b f ≡ 0) → count_holds b f ≡ true
  count_holds_law f present absent = go (dec_lt f (B.fields b))
    where
      go : Dec (f < B.fields b) → count_holds b f ≡ true
      go (yes l) = rw (lt-ltb f (B.fields b) l) ((within-true 1 (B.count b f) 16).1 (present l))
      go (no l) = rw (le-ltb f (B.fields b) (omega arith)) (eq-eqb (B.count b f) 0 (absent (omega arith)))

  pub header-true : header_holds b ≡ true → BookHeader b
  header-true e =
      let four = and-true _ _ e in
      let three = and-true _ _ four.0 in
      let two = and-true _ _ three.0 in
      let one = and-true _ _ two.0 in
      let in_range = (within-true 1 (B.fields b) 4).0 one.1 in
      let few = (within-true 1 (B.states b) 127).0 four.1 in
      let present = count_present two.1 in_range.1 in
      record {
        events_most = leb-true (B.events b) 8 one.0;
        fields_some = in_range.0;
        fields_most = in_range.1;
        count_some = λ f l. (present f l).0;
        count_most = λ f l. (present f l).1;
        count_absent = count_absent_law two.1;
        requests_some = product-some (B.count b) (B.fields b) (λ f l. (present f l).0);
        requests_most = leb-true (B.requests b) 64 three.1;
        width_most = omega (arith, leb-true (B.events b) 8 one.0, leb-true (B.requests b) 64 three.1);
        states_some = few.0;
        states_most = few.1;
      }

  pub layout-true : layout_holds b ≡ true → BookLayout b
  layout-true e =
      let both = and-true _ _ e in
      record { header = header-true both.0; exact = eqb-true (length b) (12 + B.states b * B.width b) both.1 }

  header_holds_law : BookHeader b → header_holds b ≡ true
  header_holds_law h =
      let one = both_true (le-leb (B.events b) 8 h.events_most) ((within-true 1 (B.fields b) 4).1 (h.fields_some, h.fields_most)) in
      let two = all_below_law (count_holds b) 4 (λ f l. count_holds_law f (λ m. (h.count_some f m, h.count_most f m)) (λ m. h.count_absent f m l)) in
      let three = le-leb (B.requests b) 64 h.requests_most in
      let four = (within-true 1 (B.states b) 127).1 (h.states_some, h.states_most) in
      both_true (both_true (both_true one two) three) four

  layout_holds_law : BookLayout b → layout_holds b ≡ true
  layout_holds_law h = both_true (header_holds_law h.header) (eq-eqb (length b) (12 + B.states b * B.width b) h.exact)

  -- ---- the entries
  entry-true : (s c : ℕ) → entry_holds b s c ≡ true → (B.entry b s c ≤ B.states b) × (c < B.events b → 1 ≤ B.entry b s c)
  entry-true s c e = (leb-true (B.entry b s c) (B.states b) both.0, λ l. event l (or-true (leb (B.events b) c) (leb 1 (B.entry b s c)) both.1))
    where
      both : (leb (B.entry b s c) (B.states b) ≡ true) × ((leb (B.events b) c || leb 1 (B.entry b s c)) ≡ true)
      both = and-true _ _ e

      event : c < B.events b → (leb (B.events b) c ≡ true) ⊎ (leb 1 (B.entry b s c) ≡ true) → 1 ≤ B.entry b s c
      event l (inl h) = absurd (omega (arith, leb-true (B.events b) c h))
      event l (inr h) = leb-true 1 (B.entry b s c) h

  entry_holds_law : (s c : ℕ) → B.entry b s c ≤ B.states b → (c < B.events b → 1 ≤ B.entry b s c) → entry_holds b s c ≡ true
  entry_holds_law s c most some = both_true (le-leb (B.entry b s c) (B.states b) most) (go (dec_lt c (B.events b)))
    where
      go : Dec (c < B.events b) → (leb (B.events b) c || leb 1 (B.entry b s c)) ≡ true
      go (yes l) = rw (lt-leb (B.events b) c l) (le-leb 1 (B.entry b s c) (some l))
      go (no l) = rw (le-leb (B.events b) c (omega arith))

  pub entries-true : entries_hold b ≡ true → (s c : ℕ) → 1 ≤ s → s ≤ B.states b → c < B.width b
      → (B.entry b s c ≤ B.states b) × (c < B.events b → 1 ≤ B.entry b s c)
  entries-true e zero c some most l = absurd (omega arith)
  entries-true e (suc i) c some most l =
      entry-true (suc i) c (all-below_at (entry_holds b (suc i)) (B.width b) (all-below_at (row_holds b) (B.states b) e i most) c l)

  pub entries_hold_law : ((s c : ℕ) → 1 ≤ s → s ≤ B.states b → c < B.width b → B.entry b s c ≤ B.states b)
      → ((s c : ℕ) → 1 ≤ s → s ≤ B.states b → c < B.events b → 1 ≤ B.entry b s c) → entries_hold b ≡ true
  entries_hold_law most some =
      all_below_law (row_holds b) (B.states b)
      (λ i l. all_below_law (entry_holds b (suc i)) (B.width b) (λ c m. entry_holds_law (suc i) c (most (suc i) c (omega arith) l m) (some (suc i) c (omega arith) l)))

  -- ---- what passing gives, and what gives it
  passed : book_refusal b ≡ 0 → BookPassed b
  unfolding book_refusal
  passed e =
      let passes : (n : ℕ) → row_test n book_checks b ≡ true = λ n. row-passes b n book_checks refl e in
      let head = and-true _ _ (passes 12) in
      let begins = and-true _ _ head.0 in
      record {
        long = leb-true 12 (length b) begins.0;
        mark = (mark-true b 0x42 0x4F 0x4B).0 begins.1;
        version = (version-true b 1 (omega arith)).0 head.1;
        layout = layout-true (passes 13);
        entry_most = λ s c some most l. (entries-true (passes 14) s c some most l).0;
        event_entry_some = λ s c some most l. (entries-true (passes 14) s c some most (omega arith)).1 l;
      }

  passes : BookPassed b → book_refusal b ≡ 0
  unfolding book_refusal
  passes h =
      let begins = both_true (both_true (le-leb 12 (length b) h.long) ((mark-true b 0x42 0x4F 0x4B).1 h.mark)) ((version-true b 1 (omega arith)).1 h.version) in
      let each : PassedBefore 0 book_checks b =
      record { passed = (((tt, begins), layout_holds_law h.layout), entries_hold_law h.entry_most h.event_entry_some) } in
      rows_from_law each

  pub book-passed : (book_refusal b ≡ 0) ↔ BookPassed b
  book-passed = (passed, passes)
