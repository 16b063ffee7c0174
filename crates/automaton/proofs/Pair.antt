-- Two machines of one width side by side, and that their `difference` is right: none if the machines are alike, and else the earliest history that is
-- possible in just one of them, with 1 to a + b - 1 codes where they have a and b states.
use mathlib.Core.Path.{◌≡◌, refl, ap, sym, ◌∙◌}
use mathlib.Core.Bool.{Bool, cond, true, false, false≢true}
use mathlib.Core.Logic.{inl, inr, ◌↔◌}
use mathlib.Core.List.{[], ◌∷◌, ◌++◌}
use mathlib.Core.Option.{Option, none, some}
use Prim.Native.Nat.{ℕ, zero, suc, ◌+◌, ◌*◌, ◌/◌, ◌%◌, ◌≤◌, ◌<◌}
use native.Mathlib.Nat.{add_comm, mul-le-mul_right, add-mul-div_right, div-eq_of_lt, mul-add-mod_self_right, mod-eq_of_lt}
use native.Mathlib.Omega.{arith}
use native.Mathlib.Decide.{dec_lt}
use lib.Dec.{T, ltb}
use lib.ListN.{length}
use borrow.Author.Tests.{ltb-false}
use Rattle.automaton.specs.Below.{lowest_below}
use Rattle.automaton.specs.History.{History, NotLater, Earliest}
use Rattle.automaton.specs.Machine.{Machine, step, after, is_state, Alike, in_one, Distinguishes}
use Rattle.automaton.specs.Explore.{Reached, reached, first_that}
use Rattle.automaton.specs.Pair.{pair, beside, differs_by, differs, last_code, difference}
use Rattle.automaton.proofs.Order.{earlier_append, not-later_trans, not-later-code, not-later_longer}
use Rattle.automaton.proofs.Machine.{is_state_law, step_past, after-zero, alike_of_not_distinguished}
use Rattle.automaton.proofs.Below.{is_true, any_below_law, any_below_at, lowest_below_law, lowest-below_le}
use Rattle.automaton.proofs.Explore.{reached-few}
use Rattle.automaton.proofs.Earliest.{Passes, Explored, reached-explored, first-earliest, first-none}
use Rattle.automaton.proofs.Separation.{HasStates, Separates, Answers, answers_unique, after-within, separates_after, earliest-short, earliest-some}

step_state_law : (m : Machine) (s c : ℕ) → 1 ≤ s → step m s c ≡ cond (ltb c m.width) (m.next s c) 0
step_state_law m zero c p = absurd (omega arith)
step_state_law m (suc s) c p = refl

-- ---- a pair of states as one number
module _ (base : ℕ) where
  pair-zero : (s : ℕ) → pair base s 0 ≡ 0
  pair-zero zero = refl
  pair-zero (suc s) = refl

  pair-low : (a b s t : ℕ) → s ≤ a → t ≤ b → pair base s t ≤ a * base + b
  pair-low a b zero t p q = omega arith
  pair-low a b (suc s) zero p q = omega arith
  pair-low a b (suc s) (suc t) p q = omega (arith, mul-le-mul_right base p)

  pair-state : (s t : ℕ) → 1 ≤ s → 1 ≤ t → 1 ≤ pair base s t
  pair-state zero t p q = absurd (omega arith)
  pair-state (suc s) zero p q = absurd (omega arith)
  pair-state (suc s) (suc t) p q = omega arith

  state-pair : (s t : ℕ) → is_state (pair base s t) ≡ true → (1 ≤ s) × (1 ≤ t)
  state-pair zero t e = absurd (false≢true e)
  state-pair (suc s) zero e = absurd (false≢true e)
  state-pair (suc s) (suc t) e = (omega arith, omega arith)

  pair_left : (s t : ℕ) → 1 ≤ s → 1 ≤ t → t < base → pair base s t / base ≡ s
  pair_left zero t p q l = absurd (omega arith)
  pair_left (suc s) zero p q l = absurd (omega arith)
  pair_left (suc s) (suc t) p q l =
      rw (add_comm (suc s * base) (suc t), add-mul-div_right (suc t) (suc s) {z = base} (omega arith), div-eq_of_lt l) (omega arith)

  pair-right : (s t : ℕ) → 1 ≤ s → 1 ≤ t → t < base → pair base s t % base ≡ t
  pair-right zero t p q l = absurd (omega arith)
  pair-right (suc s) zero p q l = absurd (omega arith)
  pair-right (suc s) (suc t) p q l = mul-add-mod_self_right (suc s) base (suc t) ∙ mod-eq_of_lt l

-- ---- both machines take each step
module _ (A B : Machine) (b base : ℕ) (steps : (t c : ℕ) → step B t c ≤ b) (small : b < base) where
  beside-step : (s t c : ℕ) → t ≤ b → step (beside base A B) (pair base s t) c ≡ pair base (step A s c) (step B t c)
  beside-step zero t c l = refl
  beside-step (suc s) zero c l = sym (pair-zero base (step A (suc s) c))
  beside-step (suc s) (suc t) c l =
      step_state_law (beside base A B) q c (pair-state base (suc s) (suc t) (omega arith) (omega arith)) ∙ go (ltb c A.width) refl
    where
      q : ℕ
      q = pair base (suc s) (suc t)

      left : q / base ≡ suc s
      left = pair_left base (suc s) (suc t) (omega arith) (omega arith) (omega arith)

      right : q % base ≡ suc t
      right = pair-right base (suc s) (suc t) (omega arith) (omega arith) (omega arith)

      go : (w : Bool) → ltb c A.width ≡ w
          → cond w (pair base (step A (q / base) c) (step B (q % base) c)) 0 ≡ pair base (step A (suc s) c) (step B (suc t) c)
      go true e = rw (left, right)
      go false e = rw (step_past A (suc s) c (ltb-false c A.width e))

  beside-after : (h : History) (s t : ℕ) → t ≤ b → after (beside base A B) (pair base s t) h ≡ pair base (after A s h) (after B t h)
  beside-after [] s t l = refl
  beside-after (c ∷ h) s t l =
      ap (λ (q : ℕ). after (beside base A B) q h) (beside-step s t c l) ∙ beside-after h (step A s c) (step B t c) (steps t c)

  differs_by_law : (s t c : ℕ) → 1 ≤ s → 1 ≤ t → t ≤ b → differs_by base A B (pair base s t) c ≡ in_one (is_state (step A s c)) (is_state (step B t c))
  differs_by_law s t c p q l = rw (pair_left base s t p q (omega arith), pair-right base s t p q (omega arith))

-- ---- where two states part
-- k begins with a history that leads from both to states, and then has a code that is possible in just one of these
record Parting (A B : Machine) (x y : ℕ) (k : History) : Type 0 where
  before : History
  code : ℕ
  rest : History
  whole : k ≡ (before ++ (code ∷ [])) ++ rest
  left : 1 ≤ after A x before
  right : 1 ≤ after B y before
  parts : T (in_one (is_state (step A (after A x before) code)) (is_state (step B (after B y before) code)))

module _ (A B : Machine) where
  parting : (k : History) (x y : ℕ) → 1 ≤ x → 1 ≤ y → Distinguishes A x B y k → Parting A B x y k
  parting [] zero y p q t = absurd (omega arith)
  parting [] (suc x) zero p q t = absurd (omega arith)
  parting [] (suc x) (suc y) p q t = absurd t
  parting (c ∷ k) x y p q t = go (step A x c) refl (step B y c) refl t (parting k (step A x c) (step B y c))
    where
      here : T (in_one (is_state (step A x c)) (is_state (step B y c))) → Parting A B x y (c ∷ k)
      here u = record { before = []; code = c; rest = k; whole = refl; left = p; right = q; parts = u }

      later : Parting A B (step A x c) (step B y c) k → Parting A B x y (c ∷ k)
      later r = record {
        before = c ∷ r.before;
        code = r.code;
        rest = r.rest;
        whole = ap (λ (l : History). c ∷ l) r.whole;
        left = r.left;
        right = r.right;
        parts = r.parts;
      }

      go : (x' : ℕ) → step A x c ≡ x' → (y' : ℕ) → step B y c ≡ y' → Distinguishes A x' B y' k
          → (1 ≤ step A x c → 1 ≤ step B y c → Distinguishes A (step A x c) B (step B y c) k → Parting A B (step A x c) (step B y c) k)
          → Parting A B x y (c ∷ k)
      go zero e zero f u ih = absurd (rw (after-zero A k, after-zero B k) at u)
      go zero e (suc y') f u ih = here (rw (e, f) tt)
      go (suc x') e zero f u ih = here (rw (e, f) tt)
      go (suc x') e (suc y') f u ih = later (ih (omega arith) (omega arith) t)

-- ---- the difference
module _ (A B : Machine) (a b : ℕ) (of_a : HasStates A a) (of_b : HasStates B b) (wide : A.width ≡ B.width) (base most : ℕ) (small : b < base)
    (room : a * base + b ≤ most) where
  abbrev both : Machine
  both = beside base A B

  abbrev test : ℕ → Bool
  test = differs base A B

  both-after : (h : History) → after both both.start h ≡ pair base (after A A.start h) (after B B.start h)
  both-after h = beside-after A B b base of_b.steps small h A.start B.start of_b.start.most

  both-low : (q c : ℕ) → step both q c ≤ a * base + b
  both-low zero c = omega arith
  both-low (suc q) c = go (ltb c A.width)
    where
      go : (w : Bool) → cond w (pair base (step A (suc q / base) c) (step B (suc q % base) c)) 0 ≤ a * base + b
      go true = pair-low base a b (step A (suc q / base) c) (step B (suc q % base) c) (of_a.steps (suc q / base) c) (of_b.steps (suc q % base) c)
      go false = omega arith

  explored : Explored both (reached both most)
  explored = reached-explored both most begins (omega (arith, reached-few both most begins (a * base + b) both-low start))
    where
      begins : is_state both.start ≡ true
      begins = is_state_law both.start (pair-state base A.start B.start of_a.start.least of_b.start.least)

      start : both.start ≤ a * base + b
      start = pair-low base a b A.start B.start of_a.start.most of_b.start.most

  parts_within : (x y c : ℕ) → T (in_one (is_state (step A x c)) (is_state (step B y c))) → c < A.width
  parts_within x y c t = go (dec_lt c A.width)
    where
      go : Dec (c < A.width) → c < A.width
      go (yes l) = l
      go (no n) = absurd (rw (step_past A x c (omega arith), step_past B y c (omega arith)) at t)

  -- the pair that h leads to, and what it is tested for
  module _ (h : History) where
    abbrev x : ℕ
    x = after A A.start h

    abbrev y : ℕ
    y = after B B.start h

    test_at : 1 ≤ x → 1 ≤ y → (c : ℕ) → differs_by base A B (after both both.start h) c ≡ in_one (is_state (step A x c)) (is_state (step B y c))
    test_at p q c =
        let low : y ≤ b = after-within B b of_b B.start of_b.start.most h in
        ap (λ (n : ℕ). differs_by base A B n c) (both-after h) ∙ differs_by_law A B b base of_b.steps small x y c p q low

    parts-pass : 1 ≤ x → 1 ≤ y → (c : ℕ) → T (in_one (is_state (step A x c)) (is_state (step B y c))) → Passes both test h
    parts-pass p q c t = (
      ap is_state (both-after h) ∙ is_state_law (pair base x y) (pair-state base x y p q),
      any_below_law (differs_by base A B (after both both.start h)) A.width c (parts_within x y c t)
          (test_at p q c ∙ is_true (in_one (is_state (step A x c)) (is_state (step B y c))) t),
    )

  answer-none : ((h : History) → Passes both test h → ⊥) → Alike A A.start B B.start
  answer-none n = alike_of_not_distinguished A A.start B B.start (λ k t.
      let r = parting A B k A.start B.start of_a.start.least of_b.start.least t in
      n r.before (parts-pass r.before r.left r.right r.code r.parts))

  -- h is the earliest history that leads to a pair whose states part, c the first code at which they do
  module _ (h : History) (earliest : Earliest (Passes both test) h) where
    abbrev parted : ℕ → Bool
    parted = differs_by base A B (after both both.start h)

    abbrev c : ℕ
    c = lowest_below A.width parted

    states : (1 ≤ x h) × (1 ≤ y h)
    states = state-pair base (x h) (y h) (ap is_state (sym (both-after h)) ∙ earliest.0.0)

    parted-at : (d : ℕ) → parted d ≡ in_one (is_state (step A (x h) d)) (is_state (step B (y h) d))
    parted-at = test_at h states.0 states.1

    code-parts : parted c ≡ true
    code-parts =
        let r = any_below_at parted A.width earliest.0.1 in
        (lowest_below_law parted A.width).passes (omega (arith, lowest-below_le parted A.width r.0 r.1 r.2, r.1))

    answer-some : Earliest (Separates A B) (h ++ (c ∷ []))
    answer-some = (
      rw (separates_after A B h (c ∷ []), ← parted-at c, code-parts) tt,
      λ k t. not_earlier k (parting A B k A.start B.start of_a.start.least of_b.start.least t),
    )
      where
        not_earlier : (k : History) → Parting A B A.start B.start k → NotLater (h ++ (c ∷ [])) k
        not_earlier k r =
            not-later_trans (h ++ (c ∷ [])) (r.before ++ (r.code ∷ [])) k
            (go (earliest.1 r.before (parts-pass r.before r.left r.right r.code r.parts)))
            (rw r.whole (not-later_longer (r.before ++ (r.code ∷ [])) r.rest))
          where
            go : NotLater h r.before → NotLater (h ++ (c ∷ [])) (r.before ++ (r.code ∷ []))
            go (inl e) = inl (earlier_append h r.before (c ∷ []) (r.code ∷ []) refl e)
            go (inr e) =
                let within = parts_within (x r.before) (y r.before) r.code r.parts in
                let parts : parted r.code ≡ true = is_true (parted r.code) (rw (parted-at r.code, e) r.parts) in
                rw (← e) (not-later-code h c r.code (lowest-below_le parted A.width r.code within parts))

  pub difference-answers : Answers A B (difference base most A B)
  unfolding difference
  difference-answers = go (first_that test (reached both most)) refl
    where
      go : (o : Option Reached) → first_that test (reached both most) ≡ o → Answers A B (last_code base A B o)
      go none e = answer-none (first-none test both (reached both most) explored e)
      go (some t) e =
          let r = first-earliest test both (reached both most) explored t e in
          rw (← r.leads) (answer-some t.history r.earliest)

  pub difference-is : (o : Option History) → Answers A B o → difference base most A B ≡ o
  difference-is o r = answers_unique A B (difference base most A B) o difference-answers r

  pub difference-none : (difference base most A B ≡ none) ↔ Alike A A.start B B.start
  difference-none = (λ e. rw e at difference-answers, difference-is none)

  pub difference-some : (h : History) → difference base most A B ≡ some h → Earliest (Separates A B) h × (1 ≤ length h) × (length h < a + b)
  difference-some h e =
      let earliest : Earliest (Separates A B) h = rw e at difference-answers in
      (earliest, earliest-some A B a b of_a of_b h earliest, earliest-short A B a b of_a of_b h earliest)
