-- Marks spread backwards along the events of a book. A mark is put only on a state from which a request is answered later, and each round that marks a
-- state makes them more.
use mathlib.Core.Path.{◌≡◌, refl, sym, ◌∙◌, subst}
use mathlib.Core.Bool.{Bool, cond, true, false, true≢false, not, ◌||◌}
use mathlib.Core.Logic.{◌⊎◌, inl, inr}
use mathlib.Core.List.{List, [], ◌∷◌}
use Prim.Native.Nat.{ℕ, zero, suc, ◌+◌, ◌≤◌, ◌<◌}
use native.Mathlib.Decide.{ℕ_discrete}
use native.Mathlib.Numerals.{add-one}
use native.Mathlib.Omega.{arith}
use lib.ListN.{length, set, length-set}
use lib.Seq.{get_or-set_same, get_or-set_other}
use borrow.Author.Tests.{not-true}
use Rattle.automaton.specs.Below.{any_below, one}
use Rattle.automaton.proofs.Below.{below_suc, and-true, any_below_at, count-below_le, count-below_grows}
use Rattle.definitions.specs.Book.{events, states, entry}
use Rattle.definitions.specs.Demands.{Events}
use Rattle.definitions.specs.Telling.{some_request, answered}
use Rattle.definitions.specs.Checked.{BookPassed}
use Rattle.definitions.proofs.BookSteps.{step-is-entry}
use Rattle.findings.specs.Marks.{marked, count_marks, marked_successor, gains, with_gain, AnswersLater, Marks}

-- ---- the first marks
-- the last of the states is marked where it answers a request, as those before it are
pub answering_marks : (b : List ℕ) (marks : List Bool) (s : ℕ) (x : Bool) → 128 ≤ length marks → s < 128 → states b ≤ s → x ≡ some_request answered b s
    → ((t : ℕ) → 1 ≤ t → t < s → marked marks t ≡ some_request answered b t) → Marks b (set marks s x)
answering_marks b marks s x room few last e are = record {
  room = rw length-set room;
  full = λ t p q a. is t p q (ℕ_discrete t s) ∙ a;
  sound = λ t p q a. record { list = []; events = λ i k. absurd (omega arith); answers = sym (is t p q (ℕ_discrete t s)) ∙ a };
}
  where
    is : (t : ℕ) → 1 ≤ t → t ≤ states b → Dec (t ≡ s) → marked (set marks s x) t ≡ some_request answered b t
    is t p q (yes i) = rw i (get_or-set_same marks s x false (omega arith) ∙ e)
    is t p q (no n) = get_or-set_other marks s t x false n ∙ are t p (omega arith)

-- ---- one state
module _ (marks : List Bool) (s : ℕ) (room : s < length marks) where
  marked_new : marked (set marks s true) s ≡ true
  marked_new = get_or-set_same marks s true false room

  marked_other : (t : ℕ) → (t ≡ s → ⊥) → marked (set marks s true) t ≡ marked marks t
  marked_other t n = get_or-set_other marks s t true false n

  marked_still : (t : ℕ) → marked marks t ≡ true → marked (set marks s true) t ≡ true
  marked_still t e = go (ℕ_discrete t s)
    where
      go : Dec (t ≡ s) → marked (set marks s true) t ≡ true
      go (yes q) = rw q marked_new
      go (no q) = marked_other t q ∙ e

module _ (b : List ℕ) (p : BookPassed b) (marks : List Bool) (M : Marks b marks) (s : ℕ) (some : 1 ≤ s) (few : s ≤ states b) where
  inside : s < 128
  inside = omega (arith, p.layout.header.states_most)

  -- an event leads to a state from which a request is answered later
  answers-before : (c : ℕ) → c < events b → AnswersLater b (entry b s c) → AnswersLater b s
  answers-before c l later = record { list = c ∷ later.list; events = all; answers = rw (step-is-entry b s c some (omega arith)) later.answers }
    where
      all : Events (events b) (c ∷ later.list)
      all zero k = l
      all (suc i) k = later.events i (omega arith)

  leads : gains b marks s ≡ true → AnswersLater b s
  leads e =
      let hit = any_below_at (marked_successor b marks s) (events b) (and-true (not (marked marks s)) (any_below (events b) (marked_successor b marks s)) e).1 in
      let c = hit.0 in
      answers-before c hit.1 (M.sound (entry b s c) (p.event_entry_some s c some few hit.1) (p.entry_most s c some few (omega (arith, hit.1))) hit.2)

  marks_more : gains b marks s ≡ true → Marks b (set marks s true)
  marks_more e = record { room = rw length-set M.room; full = λ t q l a. marked_still marks s room t (M.full t q l a); sound = λ t q l a. go t q l a (ℕ_discrete t s) }
    where
      room : s < length marks
      room = omega (arith, inside, M.room)

      go : (t : ℕ) → 1 ≤ t → t ≤ states b → marked (set marks s true) t ≡ true → Dec (t ≡ s) → AnswersLater b t
      go t q l a (yes is) = rw is (leads e)
      go t q l a (no is) = M.sound t q l (sym (marked_other marks s room t is) ∙ a)

  count_more : gains b marks s ≡ true → count_marks marks < count_marks (set marks s true)
  unfolding count_marks
  count_more e =
      let room : s < length marks = omega (arith, inside, M.room) in
      let off = not-true (marked marks s) (and-true (not (marked marks s)) (any_below (events b) (marked_successor b marks s)) e).0 in
      count-below_grows (marked marks) (marked (set marks s true)) 128 (λ t l a. marked_still marks s room t a) s inside off (marked_new marks s room)

  pub gain_marks : Marks b (with_gain b marks s)
  gain_marks = go (gains b marks s) refl
    where
      go : (t : Bool) → gains b marks s ≡ t → Marks b (cond t (set marks s true) marks)
      go true e = marks_more e
      go false e = M

  pub gain_count : count_marks marks + one (gains b marks s) ≤ count_marks (with_gain b marks s)
  gain_count = go (gains b marks s) refl
    where
      go : (t : Bool) → gains b marks s ≡ t → count_marks marks + one t ≤ count_marks (cond t (set marks s true) marks)
      go true e = omega (arith, count_more e)
      go false e = omega arith

-- ---- a round
-- the states below s have been looked at, and the marks are more where one was gained
pub record Round (b : List ℕ) (marks₀ marks : List Bool) (gained : Bool) (s : ℕ) : Type 0 where
  pub are : Marks b marks
  pub some : 1 ≤ s
  pub count : count_marks marks₀ + one gained ≤ count_marks marks
  pub fixed : gained ≡ false → (t : ℕ) → 1 ≤ t → t < s → gains b marks t ≡ false

pub count-few : (marks : List Bool) → count_marks marks ≤ 128
unfolding count_marks
count-few marks = count-below_le 128 (marked marks)

module _ (b : List ℕ) (p : BookPassed b) (marks₀ marks : List Bool) (gained : Bool) (s : ℕ) (S : Round b marks₀ marks gained s) where
  more : s ≤ states b → (g : Bool) → gains b marks s ≡ g → Round b marks₀ (cond g (set marks s true) marks) (gained || g) (s + 1)
  more l g e = record {
    are = subst (λ (x : Bool). Marks b (cond x (set marks s true) marks)) e (gain_marks b p marks S.are s S.some l);
    some = omega arith;
    count = counted gained g S.count (subst (λ (x : Bool). count_marks marks + one x ≤ count_marks (cond x (set marks s true) marks)) e (gain_count b p marks S.are s S.some l));
    fixed = kept gained g S.fixed e;
  }
    where
      counted : (h k : Bool) → count_marks marks₀ + one h ≤ count_marks marks → count_marks marks + one k ≤ count_marks (cond k (set marks s true) marks)
          → count_marks marks₀ + one (h || k) ≤ count_marks (cond k (set marks s true) marks)
      counted true k x y = omega (arith, x, y)
      counted false k x y = omega (arith, x, y)

      kept : (h k : Bool) → (h ≡ false → (t : ℕ) → 1 ≤ t → t < s → gains b marks t ≡ false) → gains b marks s ≡ k
          → (h || k) ≡ false → (t : ℕ) → 1 ≤ t → t < s + 1 → gains b (cond k (set marks s true) marks) t ≡ false
      kept true k fixed e z t p q = absurd (true≢false z)
      kept false true fixed e z t p q = absurd (true≢false z)
      kept false false fixed e z t p q = last t p (below_suc t s (rw add-one at q))
        where
          last : (t : ℕ) → 1 ≤ t → (t < s) ⊎ (t ≡ s) → gains b marks t ≡ false
          last t p (inl l) = fixed refl t p l
          last t p (inr i) = rw i e

  pub round_turn : s ≤ states b → (r : Bool) (marks' : List Bool) → r ≡ gains b marks s → marks' ≡ with_gain b marks s
      → Round b marks₀ marks' (gained || r) (s + 1)
  round_turn l r marks' er em = rw (em, er) (more l (gains b marks s) refl)
