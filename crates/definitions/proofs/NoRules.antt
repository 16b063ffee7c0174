-- A policy without rules: no variable has a bound above 0, so that there is one valuation and one situation; every list of events is possible, and nothing else.
-- Two with equal frames have the same possible histories and so one book, which has one state. It ends in no_rules_pass, no-rules-right and no_rules_share.
use mathlib.Core.Path.{◌≡◌, refl, sym, ap, ap₂, ◌∙◌, subst}
use mathlib.Core.Bool.{true, false, true≢false}
use mathlib.Core.Logic.{◌↔◌}
use mathlib.Core.List.{List, [], ◌∷◌, ◌++◌}
use mathlib.Core.Option.{Option, none, some}
use Prim.Native.Nat.{ℕ, zero, suc, ◌+◌, ◌*◌, ◌^◌, ◌≤◌, ◌<◌}
use native.Mathlib.Nat.{not-suc-le-zero, le_of_suc-le-suc}
use native.Mathlib.Omega.{arith}
use native.Mathlib.Decide.{dec_lt}
use lib.Dec.{leb}
use lib.ListN.{length, get_or, replicate, length-append, length-replicate}
use lib.Seq.{ext_get_or}
use borrow.Author.Tests.{le-leb}
use Rattle.automaton.specs.Below.{fold_below, all_below}
use Rattle.automaton.specs.History.{History, Earliest}
use Rattle.automaton.specs.Machine.{Machine, step, after, is_state, possible_from, possible, SameHistories}
use Rattle.automaton.proofs.Below.{is_false, same_truth}
use Rattle.automaton.proofs.Machine.{is_state_law, no_state, step-within, after_append, possible-state}
use Rattle.automaton.proofs.Order.{not-later_longer, earliest_unique}
use Rattle.automaton.proofs.WellFormed.{step-entry}
use Rattle.definitions.specs.Answer.{judge, then_judge}
use Rattle.definitions.specs.Bytes.{product}
use Rattle.definitions.specs.Policy as P
use Rattle.definitions.specs.Codes.{accept_code, reject_code}
use Rattle.definitions.specs.Valuation.{greatest_tested, bound, values_of, valuations}
use Rattle.definitions.specs.Situation.{start_situation, image_of_set, policy_machine}
use Rattle.definitions.specs.Book as B
use Rattle.definitions.specs.Refusal.{rule_passes, rule_masks_hold, masks_hold, valuations_hold, file_checks, file_refusal, situations, row11, policy_refusal, Accepted}
use Rattle.definitions.specs.Build.{book_rows, book_of}
use Rattle.definitions.specs.Verdict.{Found, findings}
use Rattle.definitions.specs.Demands.{Events, Unanswered, MissingAfter, ConflictAfter, BlockedAfter, FindingIsRight, BlockingIsRight, LeadsTo, StateOf, SameAfter, NoRulesPass, nothing_answered, events_row, NoRulesAreRight, NoRulesShareBooks}
use Rattle.definitions.proofs.Accepted.{file_accepted, policy_accepted}
use Rattle.definitions.proofs.Tests.{judge-zero, then_judge-last}
use Rattle.definitions.proofs.CheckLists.{refusal_among, row-not_returned}
use Rattle.definitions.proofs.Sets.{state-has}
use Rattle.definitions.proofs.Steps.{step-next, has-request-step, step-below, start-below, start-is-state, situations-few, after-below, image_of_set-below, event_possible}
use Rattle.definitions.proofs.BookOf.{rows-tidy, built_states, built_after, built_histories}
use Rattle.definitions.proofs.BookStates.{states-right}
use Rattle.definitions.proofs.Demands.{demand2, demand3}

-- lists of events, from their first event on
events-some : (E c : ℕ) (h : History) → c < E → Events E h → Events E (c ∷ h)
events-some E c h l all zero within = l
events-some E c h l all (suc i) within = all i (le_of_suc-le-suc within)

events-rest : (E c : ℕ) (h : History) → Events E (c ∷ h) → Events E h
events-rest E c h all i within = all (suc i) (omega arith)

-- the row of the one state, by its places
row-length : (E Q : ℕ) → length (events_row E Q) ≡ E + 2 * Q
row-length E Q = length-append (replicate E 1) (replicate (2 * Q) 0) ∙ ap₂ ◌+◌ (length-replicate {A = ℕ} E 1) (length-replicate {A = ℕ} (2 * Q) 0)

event_at : (E Q c : ℕ) → c < E → get_or (events_row E Q) c 0 ≡ 1
event_at zero Q c l = absurd (not-suc-le-zero l)
event_at (suc E) Q zero l = refl
event_at (suc E) Q (suc c) l = event_at E Q c (le_of_suc-le-suc l)

zero_at : (n c : ℕ) → get_or (replicate {A = ℕ} n 0) c 0 ≡ 0
zero_at zero c = refl
zero_at (suc n) zero = refl
zero_at (suc n) (suc c) = zero_at n c

request_at : (E Q c : ℕ) → E ≤ c → get_or (events_row E Q) c 0 ≡ 0
request_at zero Q c l = zero_at (2 * Q) c
request_at (suc E) Q zero l = absurd (not-suc-le-zero l)
request_at (suc E) Q (suc c) l = request_at E Q c (le_of_suc-le-suc l)

single : {A : Type 0} (xs : List A) (d : A) → length xs ≡ 1 → xs ≡ get_or xs 0 d ∷ []
single [] d e = absurd (omega arith)
single (x ∷ []) d e = refl
single (x ∷ y ∷ xs) d e = absurd (omega arith)

module _ (p : List ℕ) (none_is : P.rules p ≡ 0) where
  abbrev m : Machine
  m = policy_machine p

  abbrev E : ℕ
  E = P.events p

  -- ---- one valuation, one situation
  bound-zero : (j : ℕ) → bound p j ≡ 0
  bound-zero j = ap (λ (n : ℕ). fold_below n 0 (greatest_tested p j)) none_is

  product-one : (n : ℕ) → product n (values_of p) ≡ 1
  product-one zero = refl
  product-one (suc n) = rw (product-one n, bound-zero n)

  one-valuation : valuations p ≡ 1
  one-valuation = product-one (P.variables p)

  one_situation : length (situations p) ≤ 1
  one_situation = omega (arith, subst (λ (n : ℕ). length (situations p) < 2 ^ n) one-valuation (situations-few p))

  -- ---- refusals
  masks_hold_law : masks_hold p ≡ true
  masks_hold_law = ap (λ (n : ℕ). all_below n (rule_passes p (rule_masks_hold p))) none_is

  valuations_hold_law : valuations_hold p ≡ true
  valuations_hold_law = le-leb (valuations p) 64 (omega (arith, one-valuation))

  few_pass : (n : ℕ) → n ≤ 1 → judge 11 (leb n 127) 0 ≡ 0
  few_pass n l = (judge-zero 10 (leb n 127) 0).1 (le-leb n 127 (omega arith), refl)

  row11-passes : row11 p ≡ 0
  unfolding row11
  row11-passes = few_pass (length (situations p)) one_situation

  refusal_of_file : policy_refusal p ≡ file_refusal p
  unfolding policy_refusal
  refusal_of_file = ap (then_judge (file_refusal p)) row11-passes ∙ then_judge-last (file_refusal p)

  not_refused_by : (n : ℕ) → (file_refusal p ≡ n → ⊥) → policy_refusal p ≡ n → ⊥
  not_refused_by n never e = never (sym refusal_of_file ∙ e)

  pub no_rules_pass : NoRulesPass p
  unfolding file_refusal
  no_rules_pass = (
    not_refused_by 8 (row-not_returned p 8 file_checks (omega arith) refl masks_hold_law),
    not_refused_by 10 (row-not_returned p 10 file_checks (omega arith) refl valuations_hold_law),
    not_refused_by 11 (refusal_among p 11 file_checks (omega arith) refl),
  )

  -- ---- possible histories
  -- no code of a request is possible
  request_never : (set c : ℕ) → E ≤ c → is_state (step m set c) ≡ true → ⊥
  request_never set c l s =
      let here : is_state set ≡ true = possible-state m set (c ∷ []) s in
      let state : is_state (image_of_set p set c) ≡ true = ap is_state (sym (step-next m set c here (step-within m set c s))) ∙ s in
      let (u, lu, h) = state-has (valuations p) (image_of_set p set c) (image_of_set-below p set c) state in
      let (v, lv, hv, by) = (has-request-step p set c u l).0 h in
      omega (arith, by.1, none_is)

  -- from every situation the lists of events are possible, and nothing else
  possible-events : (set : ℕ) → is_state set ≡ true → set < 2 ^ valuations p → (h : History) → (possible_from m set h ≡ true) ↔ Events E h
  possible-events set s b [] = (λ e i l. absurd (omega arith), λ all. s)
  possible-events set s b (c ∷ h) =
      let next : (l : c < E) → (possible_from m (step m set c) h ≡ true) ↔ Events E h =
      λ l. possible-events (step m set c) (event_possible p set c s b l) (step-below p set c) h in
      (into (dec_lt c E) next, back next)
    where
      into : Dec (c < E) → (c < E → (possible_from m (step m set c) h ≡ true) ↔ Events E h) → possible_from m (step m set c) h ≡ true → Events E (c ∷ h)
      into (yes l) next e = events-some E c h l ((next l).0 e)
      into (no n) next e = absurd (request_never set c (omega arith) (possible-state m (step m set c) h e))

      back : (c < E → (possible_from m (step m set c) h ≡ true) ↔ Events E h) → Events E (c ∷ h) → possible_from m (step m set c) h ≡ true
      back next all = (next (all 0 (omega arith))).1 (events-rest E c h all)

  pub possible-are-events : (h : History) → (possible m h ≡ true) ↔ Events E h
  possible-are-events = possible-events (start_situation p) (start-is-state p) (start-below p)

  -- after a possible history the same histories are possible as at the start
  same_after : (h : History) → possible m h ≡ true → SameAfter m [] h
  same_after h e k =
      let there = after m (start_situation p) h in
      let now = possible-are-events k in
      let then = possible-events there e (after-below p (start_situation p) (start-below p) h) k in
      same_truth (possible m k) (possible_from m there k) (λ q. then.1 (now.0 q)) (λ q. now.1 (then.0 q))
      ∙ ap is_state (sym (after_append m (start_situation p) h k))

  never_answered : (h : History) (c : ℕ) → E ≤ c → possible m (h ++ (c ∷ [])) ≡ false
  never_answered h c l =
      is_false (possible m (h ++ (c ∷ [])))
      (λ e. request_never (after m (start_situation p) h) c l (ap is_state (sym (after_append m (start_situation p) h (c ∷ []))) ∙ e))

  unanswered : (h : History) (r : ℕ) → Unanswered m E h r
  unanswered h r = (never_answered h (accept_code E r) (omega arith), never_answered h (reject_code E r) (omega arith))

  -- ---- findings that are right
  module _ (Q : ℕ) (some_request_law : 1 ≤ Q) where
    -- the empty history is the earliest of any
    empty-earliest : (A : History → Type 0) → A [] → Earliest A []
    empty-earliest A a = (a, λ k q. not-later_longer [] k)

    conflict-none : (o : Option Found) → FindingIsRight (ConflictAfter m E) Q o → o ≡ none
    conflict-none none right = refl
    conflict-none (some t) right =
        absurd (true≢false (sym (right.request t refl).1.0 ∙ never_answered t.history (accept_code E t.request) (omega arith)))

    missing-at-once : (o : Option Found) → FindingIsRight (MissingAfter m E) Q o → o ≡ some (record { request = 0; history = [] })
    missing-at-once none right = absurd (right.no_history refl [] 0 some_request_law (start-is-state p, unanswered [] 0))
    missing-at-once (some t) right =
        let here : MissingAfter m E [] 0 = (start-is-state p, unanswered [] 0) in
        let empty : t.history ≡ [] =
        earliest_unique _ t.history [] (right.earliest t refl) (empty-earliest _ (0, some_request_law, here)) in
        let first : t.request ≤ 0 = right.lowest t refl 0 some_request_law (subst (λ (h : History). MissingAfter m E h 0) (sym empty) here) in
        let zero_is : t.request ≡ 0 = omega (arith, first) in
        λ i. some (record { request = zero_is i; history = empty i })

    blocked-at-once : (o : Option History) → BlockingIsRight (BlockedAfter m E Q) o → o ≡ some []
    blocked-at-once none right = absurd (right.no_history refl [] (start-is-state p, λ es all r l. unanswered es r))
    blocked-at-once (some h) right =
        ap {B = Option History} some
        (earliest_unique (BlockedAfter m E Q) h [] (right.earliest h refl) (empty-earliest (BlockedAfter m E Q) (start-is-state p, λ es all r l. unanswered es r)))

  -- ---- its book
  module _ (accepted : Accepted p) where
    abbrev b : List ℕ
    b = book_of p

    one_state : (s : ℕ) → StateOf b s → s ≡ 1
    one_state s l =
        let (h, earliest) = (states-right p accepted).reached s l in
        let leads : after (B.book_machine b) 1 h ≡ s = earliest.0 in
        let here : possible m h ≡ true = sym (built_histories p accepted h) ∙ ap is_state leads ∙ is_state_law s l.0 in
        sym (((states-right p accepted).joined [] h).1 (same_after h here) ∙ leads)

    states-one : B.states b ≡ 1
    states-one = one_state (B.states b) ((demand2 p accepted).states.0, omega arith)

    event-leads : (e : ℕ) → e < E → LeadsTo (B.book_machine b) 1 (e ∷ [])
    event-leads e l =
        let alone : Events E (e ∷ []) = events-some E e [] l (λ i within. absurd (omega arith)) in
        one_state (after (B.book_machine b) 1 (e ∷ [])) ((states-right p accepted).led (e ∷ []) ((possible-are-events (e ∷ [])).1 alone))

    request-impossible : (c : ℕ) → E ≤ c → possible (B.book_machine b) (c ∷ []) ≡ false
    request-impossible c l = built_histories p accepted (c ∷ []) ∙ never_answered [] c l

    -- the one row, entry by entry
    abbrev row : List ℕ
    row = get_or (book_rows p) 0 []

    row-entry : (c : ℕ) → get_or row c 0 ≡ after (B.book_machine b) 1 (c ∷ [])
    row-entry c = sym (built_after p accepted (c ∷ []) ∙ step-entry (P.width p) (book_rows p) (rows-tidy p accepted).is_table 1 c)

    row_is : row ≡ events_row E (P.requests p)
    row_is =
        ext_get_or 0 row (events_row E (P.requests p))
        ((rows-tidy p accepted).is_table.wide 0 (rows-tidy p accepted).is_table.some ∙ sym (row-length E (P.requests p)))
        (λ c l. row-entry c ∙ go c (dec_lt c E))
      where
        go : (c : ℕ) → Dec (c < E) → after (B.book_machine b) 1 (c ∷ []) ≡ get_or (events_row E (P.requests p)) c 0
        go c (yes l) = event-leads c l ∙ sym (event_at E (P.requests p) c l)
        go c (no n) =
            no_state (after (B.book_machine b) 1 (c ∷ [])) (request-impossible c (omega arith)) ∙ sym (request_at E (P.requests p) c (omega arith))

    bytes-are : b ≡ B.book_bytes (P.frame p) (events_row E (P.requests p) ∷ [])
    unfolding book_of
    bytes-are =
        let one : length (book_rows p) ≡ 1 = sym (built_states p accepted) ∙ states-one in
        ap (B.book_bytes (P.frame p)) (single (book_rows p) [] one ∙ ap (λ (r : List ℕ). r ∷ []) row_is)

    findings-are : findings b ≡ nothing_answered
    findings-are =
        let Q = P.requests p in
        let some_request_law = (file_accepted p (policy_accepted p accepted).0).requests_some in
        let right = (demand2 p accepted).findings in
        let conflict = conflict-none Q some_request_law (findings b).conflict right.conflict_right in
        let missing = missing-at-once Q some_request_law (findings b).missing right.missing_right in
        let blocked = blocked-at-once Q some_request_law (findings b).blocked right.blocked_right in
        λ i. record { conflict = conflict i; missing = missing i; blocked = blocked i }

    pub no-rules-right : NoRulesAreRight p b
    no-rules-right = record {
      histories = possible-are-events;
      one = states-one;
      events = event-leads;
      requests = request-impossible;
      bytes = bytes-are;
      findings = findings-are;
    }

-- ---- and of two
pub no_rules_share : (p q : List ℕ) → P.rules p ≡ 0 → P.rules q ≡ 0 → Accepted p → Accepted q → NoRulesShareBooks p q
no_rules_share p q None-first none-second first second =
    let books = (demand3 p q first second).books in
    (λ e. (books.0 e).0, λ frames. books.1 (frames, same frames))
  where
    same : P.frame p ≡ P.frame q → SameHistories (policy_machine p) (policy_machine q)
    same frames h =
        let one = possible-are-events p None-first h in
        let two = possible-are-events q none-second h in
        let events : P.events p ≡ P.events q = ap (λ (frame : List ℕ). get_or frame 0 0) frames in
        same_truth (possible (policy_machine p) h) (possible (policy_machine q) h)
        (λ e. two.1 (subst (λ (n : ℕ). Events n h) events (one.0 e))) (λ e. one.1 (subst (λ (n : ℕ). Events n h) (sym events) (two.0 e)))
