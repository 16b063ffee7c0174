-- The meaning of steps: which rules apply, which valuations a code leads to from a set of valuations, and that sets stay sets of valuations, so that few
-- valuations have few situations. An event leads from every situation to a situation.
use mathlib.Core.Path.{◌≡◌, refl, sym, ◌∙◌}
use mathlib.Core.Bool.{Bool, true, false, not, true≢false, false≢true}
use mathlib.Core.Logic.{◌↔◌, ◌⊎◌, inl, inr}
use mathlib.Core.List.{List}
use Prim.Native.Nat.{ℕ, zero, suc, ◌-◌, ◌^◌, ◌≤◌, ◌<◌}
use native.Mathlib.Omega.{arith}
use native.Mathlib.Decide.{dec_lt}
use lib.Dec.{leb, ltb, eqb}
use lib.ListN.{length}
use lib.Pow.{pow-lt, pow_pos}
use borrow.Author.Tests.{leb-true, ltb-true, ltb-false, eqb-true, not-true, le-leb, lt-ltb, le-ltb, eq-eqb}
use Rattle.automaton.specs.History.{History}
use Rattle.automaton.specs.Machine.{Machine, step, after, is_state}
use Rattle.automaton.proofs.Below.{and-true, all_below_law, all-below_at, any_below_law, any_below_at}
use Rattle.automaton.proofs.Explore.{reached-few}
use Rattle.automaton.proofs.Machine.{step_past, after_keeps}
use Rattle.definitions.specs.Policy.{events, fields, variables, rules, width, rule, mask, decision, level, ge, lt, change, event_change, value}
use Rattle.definitions.specs.Valuation.{valuations, start_valuation, variable_in, by_rule, by_event}
use Rattle.definitions.specs.Situation.{mask_lets, lets_through, is_below, test_passes, enabled, fits, outranks, outranked, applies, start_situation, decides, request_image, image, image_of_set, policy_machine}
use Rattle.definitions.specs.Codes.{request_of, decision_of}
use Rattle.definitions.specs.Refusal.{situations}
use Rattle.definitions.specs.Bytes.{bit}
use Rattle.definitions.proofs.Tests.{both_true}
use Rattle.definitions.proofs.Valuations.{start-valuation-below, carried-out-below}
use Rattle.definitions.proofs.Sets.{Has, has_single, start_has, has-state, state-has, gathered-below, has-gathered}

-- rule q's masks let request r through, and its tests are true in valuation v
pub record RuleFits (p q : List ℕ) (r v : ℕ) : Type 0 where
  pub masks : (f : ℕ) → f < fields p → Has (mask q f) (value p r f)
  pub at_least : (j : ℕ) → j < variables p → ge p q j ≤ variable_in p v j
  pub below : (j : ℕ) → j < variables p → (lt p q j ≡ 0) ⊎ (variable_in p v j < lt p q j)

-- rule q fits both, and no rule of a greater level does
pub record RuleApplies (p q : List ℕ) (r v : ℕ) : Type 0 where
  pub fitting : fits p q r v ≡ true
  pub highest : (i : ℕ) → i < rules p → fits p (rule p i) r v ≡ true → level p (rule p i) ≤ level p q

-- u is what some rule with decision d that applies to request r in valuation v makes of v
abbrev pub ByRules : List ℕ → ℕ → ℕ → ℕ → ℕ → Type 0
ByRules p r d v u = (k : ℕ) × (k < rules p) × (decides p r d v k ≡ true) × (by_rule p k v ≡ u)

-- a state's step by a code below the width
pub step-next : (m : Machine) (s c : ℕ) → is_state s ≡ true → c < m.width → step m s c ≡ m.next s c
step-next m zero c e l = absurd (false≢true e)
step-next m (suc s) c e l = rw (lt-ltb c m.width l)

-- "0 means no such test"
is-below-true : (x most : ℕ) → (is_below x most ≡ true) ↔ ((most ≡ 0) ⊎ (x < most))
is-below-true x zero = (λ e. inl refl, λ h. refl)
is-below-true x (suc most) = (λ e. inr (ltb-true x (suc most) e), back)
  where
    back : (suc most ≡ 0) ⊎ (x < suc most) → ltb x (suc most) ≡ true
    back (inl e) = absurd (omega arith)
    back (inr l) = lt-ltb x (suc most) l

module _ (p : List ℕ) where
  -- ---- which rules apply
  module _ (q : List ℕ) (r v : ℕ) where
    test-true : (j : ℕ) → (test_passes p q v j ≡ true) ↔ ((ge p q j ≤ variable_in p v j) × ((lt p q j ≡ 0) ⊎ (variable_in p v j < lt p q j)))
    test-true j = (into, λ h. both_true (le-leb (ge p q j) (variable_in p v j) h.0) ((is-below-true (variable_in p v j) (lt p q j)).1 h.1))
      where
        into : test_passes p q v j ≡ true → (ge p q j ≤ variable_in p v j) × ((lt p q j ≡ 0) ⊎ (variable_in p v j < lt p q j))
        into e =
            let both = and-true (leb (ge p q j) (variable_in p v j)) (is_below (variable_in p v j) (lt p q j)) e in
            (leb-true (ge p q j) (variable_in p v j) both.0, (is-below-true (variable_in p v j) (lt p q j)).0 both.1)

    pub fits-true : (fits p q r v ≡ true) ↔ RuleFits p q r v
    fits-true = (into, back)
      where
        into : fits p q r v ≡ true → RuleFits p q r v
        into e =
            let both = and-true (lets_through p q r) (enabled p q v) e in
            let tests = all-below_at (test_passes p q v) (variables p) both.1 in
            record {
              masks = all-below_at (mask_lets p q r) (fields p) both.0;
              at_least = λ j l. ((test-true j).0 (tests j l)).0;
              below = λ j l. ((test-true j).0 (tests j l)).1;
            }

        back : RuleFits p q r v → fits p q r v ≡ true
        back h = both_true (all_below_law (mask_lets p q r) (fields p) h.masks)
            (all_below_law (test_passes p q v) (variables p) (λ j l. (test-true j).1 (h.at_least j l, h.below j l)))

    pub applies-true : (applies p q r v ≡ true) ↔ RuleApplies p q r v
    applies-true = (into, back)
      where
        into : applies p q r v ≡ true → RuleApplies p q r v
        into e = record { fitting = both.0; highest = λ i l f. go i l f (ltb (level p q) (level p (rule p i))) refl }
          where
            both : (fits p q r v ≡ true) × (not (outranked p q r v) ≡ true)
            both = and-true (fits p q r v) (not (outranked p q r v)) e

            go : (i : ℕ) → i < rules p → fits p (rule p i) r v ≡ true → (b : Bool) → ltb (level p q) (level p (rule p i)) ≡ b
                → level p (rule p i) ≤ level p q
            go i l f true g =
                absurd (true≢false (sym (any_below_law (outranks p q r v) (rules p) i l (both_true g f)) ∙ not-true (outranked p q r v) both.1))
            go i l f false g = ltb-false (level p q) (level p (rule p i)) g

        back : RuleApplies p q r v → applies p q r v ≡ true
        back h = both_true h.fitting (go (outranked p q r v) refl)
          where
            go : (b : Bool) → outranked p q r v ≡ b → not b ≡ true
            go false e = refl
            go true e =
                let hit = any_below_at (outranks p q r v) (rules p) e in
                let i = hit.0 in
                let greater = and-true (ltb (level p q) (level p (rule p i))) (fits p (rule p i) r v) hit.2 in
                absurd (omega (arith, ltb-true (level p q) (level p (rule p i)) greater.0, h.highest i hit.1 greater.1))

  pub decides-true : (r d v k : ℕ) → (decides p r d v k ≡ true) ↔ ((decision p (rule p k) ≡ d) × (applies p (rule p k) r v ≡ true))
  decides-true r d v k = (into, λ h. both_true (eq-eqb (decision p (rule p k)) d h.0) h.1)
    where
      into : decides p r d v k ≡ true → (decision p (rule p k) ≡ d) × (applies p (rule p k) r v ≡ true)
      into e =
          let both = and-true (eqb (decision p (rule p k)) d) (applies p (rule p k) r v) e in
          (eqb-true (decision p (rule p k)) d both.0, both.1)

  -- ---- which valuations are led to
  pub has-request-image : (r d v u : ℕ) → Has (request_image p r d v) u ↔ ByRules p r d v u
  has-request-image r d v u = (into, back)
    where
      gather : Has (request_image p r d v) u ↔ ((k : ℕ) × (k < rules p) × (decides p r d v k ≡ true) × Has (2 ^ by_rule p k v) u)
      gather = has-gathered (decides p r d v) (λ k. 2 ^ by_rule p k v) (rules p) u

      into : Has (request_image p r d v) u → ByRules p r d v u
      into h = let (k, l, e, there) = gather.0 h in (k, l, e, (has_single (by_rule p k v) u).0 there)

      back : ByRules p r d v u → Has (request_image p r d v) u
      back (k, l, e, there) = gather.1 (k, l, e, (has_single (by_rule p k v) u).1 there)

  -- an event leads from v to one valuation, a request's code to those that the rules lead to
  pub image_of_event : (c v : ℕ) → c < events p → image p c v ≡ 2 ^ by_event p c v
  image_of_event c v l = rw (lt-ltb c (events p) l)

  pub image_of_request : (c v : ℕ) → events p ≤ c → image p c v ≡ request_image p (request_of (events p) c) (decision_of (events p) c) v
  image_of_request c v l = rw (le-ltb c (events p) l)

  module _ (set c u : ℕ) where
    gather : Has (image_of_set p set c) u ↔ ((v : ℕ) × (v < valuations p) × Has set v × Has (image p c v) u)
    gather = has-gathered (bit set) (image p c) (valuations p) u

    -- an event leads to what its changes make of each valuation in the set
    pub has-event-step : c < events p → Has (image_of_set p set c) u ↔ ((v : ℕ) × (v < valuations p) × Has set v × (by_event p c v ≡ u))
    has-event-step l = (into, back)
      where
        into : Has (image_of_set p set c) u → (v : ℕ) × (v < valuations p) × Has set v × (by_event p c v ≡ u)
        into h = let (v, b, s, there) = gather.0 h in (v, b, s, (has_single (by_event p c v) u).0 (rw (image_of_event c v l) at there))

        back : (v : ℕ) × (v < valuations p) × Has set v × (by_event p c v ≡ u) → Has (image_of_set p set c) u
        back (v, b, s, there) = gather.1 (v, b, s, rw (image_of_event c v l) ((has_single (by_event p c v) u).1 there))

    -- a request's code leads to what the rules with its decision that apply to the request in a valuation of the set make of that valuation
    pub has-request-step : events p ≤ c
        → Has (image_of_set p set c) u ↔ ((v : ℕ) × (v < valuations p) × Has set v × ByRules p (request_of (events p) c) (decision_of (events p) c) v u)
    has-request-step l = (into, back)
      where
        rules-image : (v : ℕ) → Has (request_image p (request_of (events p) c) (decision_of (events p) c) v) u
            ↔ ByRules p (request_of (events p) c) (decision_of (events p) c) v u
        rules-image v = has-request-image (request_of (events p) c) (decision_of (events p) c) v u

        into : Has (image_of_set p set c) u → (v : ℕ) × (v < valuations p) × Has set v × ByRules p (request_of (events p) c) (decision_of (events p) c) v u
        into h = let (v, b, s, there) = gather.0 h in (v, b, s, (rules-image v).0 (rw (image_of_request c v l) at there))

        back : (v : ℕ) × (v < valuations p) × Has set v × ByRules p (request_of (events p) c) (decision_of (events p) c) v u → Has (image_of_set p set c) u
        back (v, b, s, by) = gather.1 (v, b, s, rw (image_of_request c v l) ((rules-image v).1 by))

  -- ---- steps lead from sets of valuations to sets of valuations
  request-image-below : (r d v : ℕ) → request_image p r d v < 2 ^ valuations p
  request-image-below r d v =
      gathered-below (decides p r d v) (λ k. 2 ^ by_rule p k v) (valuations p) (rules p) (λ k l. pow-lt (carried-out-below p (change p (rule p k)) v))

  pub image-below : (c v : ℕ) → image p c v < 2 ^ valuations p
  image-below c v = go (dec_lt c (events p))
    where
      go : Dec (c < events p) → image p c v < 2 ^ valuations p
      go (yes l) = rw (image_of_event c v l) (pow-lt (carried-out-below p (event_change p c) v))
      go (no l) = rw (image_of_request c v (omega arith)) (request-image-below (request_of (events p) c) (decision_of (events p) c) v)

  pub image_of_set-below : (set c : ℕ) → image_of_set p set c < 2 ^ valuations p
  image_of_set-below set c = gathered-below (bit set) (image p c) (valuations p) (valuations p) (λ v l. image-below c v)

  pub step-below : (set c : ℕ) → step (policy_machine p) set c < 2 ^ valuations p
  step-below zero c = pow_pos (valuations p)
  step-below (suc set) c = go (dec_lt c (width p))
    where
      go : Dec (c < width p) → step (policy_machine p) (suc set) c < 2 ^ valuations p
      go (yes l) = rw (step-next (policy_machine p) (suc set) c refl l) (image_of_set-below (suc set) c)
      go (no l) = rw (step_past (policy_machine p) (suc set) c (omega arith)) (pow_pos (valuations p))

  pub start-below : start_situation p < 2 ^ valuations p
  start-below = pow-lt (start-valuation-below p)

  pub start-is-state : is_state (start_situation p) ≡ true
  start-is-state = has-state (start_situation p) (start_valuation p) ((start_has p (start_valuation p)).1 refl)

  -- every history leads to a set of valuations
  pub after-below : (set : ℕ) → set < 2 ^ valuations p → (h : History) → after (policy_machine p) set h < 2 ^ valuations p
  after-below = after_keeps (policy_machine p) (λ set. set < 2 ^ valuations p) step-below

  -- fewer situations are reached than there are sets of valuations, since the empty one is none
  pub situations-few : length (situations p) < 2 ^ valuations p
  unfolding situations
  situations-few =
      below_all (length (situations p)) (2 ^ valuations p) (pow_pos (valuations p))
      (reached-few (policy_machine p) 127 start-is-state (2 ^ valuations p - 1) (λ set c. omega (arith, step-below set c)) (omega (arith, start-below)))
    where
      below_all : (n all : ℕ) → 1 ≤ all → n ≤ all - 1 → n < all
      below_all n all some l = omega arith

  -- an event is possible in every situation
  pub event_possible : (set c : ℕ) → is_state set ≡ true → set < 2 ^ valuations p → c < events p → is_state (step (policy_machine p) set c) ≡ true
  event_possible set c s b l =
      let (v, m, h) = state-has (valuations p) set b s in
      let there : Has (image_of_set p set c) (by_event p c v) = (has-event-step set c (by_event p c v) l).1 (v, m, h, refl) in
      rw (step-next (policy_machine p) set c s (omega arith)) (has-state (image_of_set p set c) (by_event p c v) there)
