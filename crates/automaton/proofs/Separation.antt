-- Histories that are possible in just one of two machines, and what a comparison of the machines answers. Where they have a and b states, the
-- earliest such history has at least 1 and fewer than a + b codes.
use mathlib.Core.Path.{◌≡◌, refl, ap, sym, ◌∙◌}
use mathlib.Core.Logic.{◌⊎◌, inl, inr}
use mathlib.Core.List.{[], ◌∷◌, ◌++◌, append_assoc, append-nil}
use mathlib.Core.Option.{Option, none, some}
use Prim.Native.Nat.{ℕ, zero, suc, ◌+◌, ◌-◌, ◌≤◌, ◌<◌}
use native.Mathlib.Omega.{arith}
use lib.Dec.{T}
use lib.ListN.{length, length-append}
use borrow.Author.Tests.{le-leb, lt-leb}
use Rattle.automaton.specs.History.{History, NotLater, Earliest}
use Rattle.automaton.specs.Machine.{Machine, step, after, is_state, possible_from, possible, Alike, in_one, Distinguishes}
use Rattle.automaton.proofs.Order.{earliest_unique}
use Rattle.automaton.proofs.Machine.{after_append, after-zero, after_keeps, not_distinguished_of_alike}
use Rattle.automaton.proofs.Below.{count-below_le}
use Rattle.automaton.specs.Labels.{Among, Rooted, Divides, labels, own_label}
use Rattle.automaton.proofs.Labels.{merge, own-rooted, own_undivided, some_label, merge-rooted, merge-fewer, merge-divides}
use Rattle.automaton.specs.PairQueue.{possible_at}

-- the states of m are the numbers 1 to n
pub record HasStates (m : Machine) (n : ℕ) : Type 0 where
  pub start : Among n m.start
  pub steps : (s c : ℕ) → step m s c ≤ n

-- h is possible in just one of the two machines
abbrev pub Separates : Machine → Machine → History → Type 0
Separates A B h = T (in_one (possible A h) (possible B h))

-- the answer of a comparison: none for alike machines, and else the earliest history that is possible in just one
abbrev pub Answers : Machine → Machine → Option History → Type 0
Answers A B none = Alike A A.start B B.start
Answers A B (some h) = Earliest (Separates A B) h

-- there is one answer
pub answers_unique : (A B : Machine) (o p : Option History) → Answers A B o → Answers A B p → o ≡ p
answers_unique A B none none r s = refl
answers_unique A B none (some h) r s = absurd (not_distinguished_of_alike A A.start B B.start r h s.0)
answers_unique A B (some h) none r s = absurd (not_distinguished_of_alike A A.start B B.start s h r.0)
answers_unique A B (some h) (some k) r s = ap some (earliest_unique (Separates A B) h k r s)

pub after-within : (m : Machine) (n : ℕ) → HasStates m n → (s : ℕ) → s ≤ n → (h : History) → after m s h ≤ n
after-within m n states s l h = after_keeps m (λ t. t ≤ n) states.steps s l h

-- the empty history is possible from states, and not from 0
pub states_apart : (x y : ℕ) → ((1 ≤ x) × (y ≡ 0)) ⊎ ((x ≡ 0) × (1 ≤ y)) → T (in_one (is_state x) (is_state y))
states_apart zero zero (inl p) = absurd (omega arith)
states_apart zero zero (inr p) = absurd (omega arith)
states_apart zero (suc y) p = tt
states_apart (suc x) zero p = tt
states_apart (suc x) (suc y) (inl p) = absurd (omega arith)
states_apart (suc x) (suc y) (inr p) = absurd (omega arith)

pub states-not_apart : (x y : ℕ) → 1 ≤ x → 1 ≤ y → T (in_one (is_state x) (is_state y)) → ⊥
states-not_apart zero y p q t = omega arith
states-not_apart (suc x) zero p q t = omega arith
states-not_apart (suc x) (suc y) p q t = t

not-later-length : (h k : History) → NotLater h k → length h ≤ length k
not-later-length h k (inl (inl p)) = omega arith
not-later-length h k (inl (inr p)) = omega arith
not-later-length h k (inr e) = rw e (omega arith)

module _ (A B : Machine) where
  pub separates_after : (p z : History) → in_one (possible A (p ++ z)) (possible B (p ++ z))
      ≡ in_one (possible_from A (after A A.start p) z) (possible_from B (after B B.start p) z)
  separates_after p z = rw (after_append A A.start p z, after_append B B.start p z)

  -- what does not separate itself, but can go on to separate, is possible in both
  possible-before : (p : History) (c : ℕ) (z : History) → Separates A B (p ++ (c ∷ z)) → (Separates A B p → ⊥)
      → (1 ≤ after A A.start p) × (1 ≤ after B B.start p)
  possible-before p c z t not = go (after A A.start p) (after B B.start p) not (rw (separates_after p (c ∷ z)) at t)
    where
      go : (x y : ℕ) → (T (in_one (is_state x) (is_state y)) → ⊥) → Distinguishes A x B y (c ∷ z) → (1 ≤ x) × (1 ≤ y)
      go zero zero n u = absurd (rw (after-zero A z, after-zero B z) at u)
      go zero (suc y) n u = absurd (n tt)
      go (suc x) zero n u = absurd (n tt)
      go (suc x) (suc y) n u = (omega arith, omega arith)

  -- a state of A and a state of B, by their numbers
  pub told_apart_at : (a x y : ℕ) → x ≤ a → 1 ≤ y → (z : History)
      → in_one (possible_at a A B z x) (possible_at a A B z (a + y)) ≡ in_one (possible_from A x z) (possible_from B y z)
  told_apart_at a x y l k z =
      let back : a + y - a ≡ y = omega arith in
      let above : a < a + y = omega arith in
      rw (le-leb x a, lt-leb (a + y) a, back)

-- Along the earliest history that separates, each pair of states that is met is told apart by the codes still to come, and by nothing shorter. So
-- these pairs can be merged one after the other, no two states being of one label before: there are fewer pairs than numbers.
module _ (A B : Machine) (a b : ℕ) (of_a : HasStates A a) (of_b : HasStates B b) (h : History) (earliest : Earliest (Separates A B) h) where
  shortest : (k : History) → Separates A B k → length h ≤ length k
  shortest k t = not-later-length h k (earliest.1 k t)

  -- p is done and z to come: a label was taken away for each code of p, and what divides a label is longer than z
  merged_along : (z p : History) (label : ℕ → ℕ) → p ++ z ≡ h → Rooted (a + b) label → length p + labels (a + b) label ≤ a + b
      → ((g : History) → Divides (a + b) label (possible_at a A B g) → length z < length g) → length h < a + b
  merged_along [] p label e rooted few longer =
      let whole : length h ≡ length p = ap length (sym e ∙ append-nil p) in
      let start : Among (a + b) A.start = omega (arith, of_a.start) in
      omega (arith, some_label (a + b) label rooted A.start start)
  merged_along (c ∷ z) p label e rooted few longer =
      merged_along z (p ++ (c ∷ [])) label' (append_assoc p (c ∷ []) z ∙ e)
      (merge-rooted (a + b) x (a + y) label label' (λ u i. refl) inx iny rooted two)
      (rw length-append (omega (arith, merge-fewer (a + b) x (a + y) label label' (λ u i. refl) inx iny rooted two)))
      (λ g d. still-longer g (merge-divides (a + b) x (a + y) label label' (λ u i. refl) inx iny (possible_at a A B g) d))
    where
      x : ℕ
      x = after A A.start p

      y : ℕ
      y = after B B.start p

      label' : ℕ → ℕ
      label' = merge label x (a + y)

      whole : length h ≡ length p + suc (length z)
      whole = ap length (sym e) ∙ length-append p (c ∷ z)

      states : (1 ≤ x) × (1 ≤ y)
      states = possible-before A B p c z (rw e earliest.0) (λ t. omega (arith, shortest p t, whole))

      low : x ≤ a
      low = after-within A a of_a A.start of_a.start.most p

      inx : Among (a + b) x
      inx = omega (arith, states, low)

      iny : Among (a + b) (a + y)
      iny = omega (arith, states, after-within B b of_b B.start of_b.start.most p)

      apart : (g : History) → in_one (possible_at a A B g x) (possible_at a A B g (a + y)) ≡ in_one (possible A (p ++ g)) (possible B (p ++ g))
      apart g = told_apart_at A B a x y low states.1 g ∙ sym (separates_after A B p g)

      two : label x ≡ label (a + y) → ⊥
      two q = let more = longer (c ∷ z) (x, a + y, inx, iny, q, rw (apart (c ∷ z), e) earliest.0) in omega arith

      still-longer : (g : History) → Divides (a + b) label (possible_at a A B g) ⊎ T (in_one (possible_at a A B g x) (possible_at a A B g (a + y)))
          → length z < length g
      still-longer g (inl d) = omega (arith, longer g d)
      still-longer g (inr t) = omega (arith, shortest (p ++ g) (rw (apart g) at t), length-append p g, whole)

  pub earliest-short : length h < a + b
  earliest-short =
      merged_along h [] (λ u. u) refl (own-rooted (a + b) (λ u. u) (λ u i. refl)) (omega (arith, count-below_le (a + b) (own_label (λ u. u))))
      (λ g d. absurd (own_undivided (a + b) (λ u. u) (λ u i. refl) (possible_at a A B g) d))

  pub earliest-some : 1 ≤ length h
  earliest-some = go h earliest.0
    where
      go : (k : History) → Separates A B k → 1 ≤ length k
      go [] t = absurd (states-not_apart A.start B.start of_a.start.least of_b.start.least t)
      go (c ∷ k) t = omega arith
