-- The laws of machines: steps and histories, alike states, and states that a history tells apart.
use mathlib.Core.Path.{◌≡◌, refl, ap, sym, ◌∙◌}
use mathlib.Core.Bool.{Bool, true, false, true≢false, false≢true}
use mathlib.Core.Logic.{◌⊎◌, inl, inr}
use mathlib.Core.List.{[], ◌∷◌, ◌++◌}
use Prim.Native.Nat.{ℕ, zero, suc, ◌≤◌, ◌<◌}
use native.Mathlib.Nat.{not-suc-le-zero, le_of_suc-le-suc}
use native.Mathlib.Omega.{arith}
use native.Mathlib.Decide.{dec_lt}
use lib.Dec.{T}
use lib.ListN.{length, get_or}
use borrow.Author.Tests.{le-ltb}
use Rattle.automaton.specs.History.{History}
use Rattle.automaton.specs.Machine.{Machine, step, after, is_state, possible_from, Alike, in_one, Distinguishes}

-- states are the numbers above 0
pub is_state_law : (s : ℕ) → 1 ≤ s → is_state s ≡ true
is_state_law zero l = absurd (not-suc-le-zero l)
is_state_law (suc s) l = refl

pub state-is : (s : ℕ) → is_state s ≡ true → 1 ≤ s
state-is zero p = absurd (false≢true p)
state-is (suc s) p = omega arith

pub no_state : (s : ℕ) → is_state s ≡ false → s ≡ 0
no_state zero e = refl
no_state (suc s) e = absurd (true≢false e)

pub step_past : (m : Machine) (s c : ℕ) → m.width ≤ c → step m s c ≡ 0
step_past m zero c h = refl
step_past m (suc s) c h = rw (le-ltb c m.width h)

pub step-within : (m : Machine) (s c : ℕ) → is_state (step m s c) ≡ true → c < m.width
step-within m s c p = go (dec_lt c m.width)
  where
    go : Dec (c < m.width) → c < m.width
    go (yes l) = l
    go (no n) = absurd (false≢true (ap is_state (sym (step_past m s c (omega arith))) ∙ p))

pub after_append : (m : Machine) (s : ℕ) (h k : History) → after m s (h ++ k) ≡ after m (after m s h) k
after_append m s [] k = refl
after_append m s (c ∷ h) k = after_append m (step m s c) h k

pub after-zero : (m : Machine) (h : History) → after m 0 h ≡ 0
after-zero m [] = refl
after-zero m (c ∷ h) = after-zero m h

-- a state from which a history is possible is a state
pub possible-state : (m : Machine) (s : ℕ) (h : History) → possible_from m s h ≡ true → is_state s ≡ true
possible-state m zero h p = ap is_state (sym (after-zero m h)) ∙ p
possible-state m (suc s) h p = refl

pub possible_prefix : (m : Machine) (s : ℕ) (h k : History) → possible_from m s (h ++ k) ≡ true → possible_from m s h ≡ true
possible_prefix m s h k p = possible-state m (after m s h) k (ap is_state (sym (after_append m s h k)) ∙ p)

-- the codes of a possible history are below the width
pub possible_codes : (m : Machine) (s : ℕ) (h : History) → possible_from m s h ≡ true → (i : ℕ) → i < length h → get_or h i 0 < m.width
possible_codes m s [] p i l = absurd (not-suc-le-zero l)
possible_codes m s (c ∷ h) p zero l = step-within m s c (possible-state m (step m s c) h p)
possible_codes m s (c ∷ h) p (suc i) l = possible_codes m (step m s c) h p i (le_of_suc-le-suc l)

-- what holds of a state and wherever a step leads holds wherever a history leads
pub after_keeps : (m : Machine) (P : ℕ → Type 0) → ((s c : ℕ) → P (step m s c)) → (s : ℕ) → P s → (h : History) → P (after m s h)
after_keeps m P steps s p [] = p
after_keeps m P steps s p (c ∷ h) = after_keeps m P steps (step m s c) (steps s c) h

-- a map of states that goes with the steps, on a set of states that the steps do not leave, goes with the histories
pub after-map_on : (A B : Machine) (f : ℕ → ℕ) (P : ℕ → Type 0)
    → ((x c : ℕ) → P x → P (step A x c)) → ((x c : ℕ) → P x → f (step A x c) ≡ step B (f x) c)
    → (x : ℕ) → P x → (h : History) → f (after A x h) ≡ after B (f x) h
after-map_on A B f P stays goes x p [] = refl
after-map_on A B f P stays goes x p (c ∷ h) = after-map_on A B f P stays goes (step A x c) (stays x c p) h ∙ ap (λ (s : ℕ). after B s h) (goes x c p)

pub alike_refl : (A : Machine) (x : ℕ) → Alike A x A x
alike_refl A x h = refl

pub alike_sym : (A : Machine) (x : ℕ) (B : Machine) (y : ℕ) → Alike A x B y → Alike B y A x
alike_sym A x B y a h = sym (a h)

pub alike_trans : (A : Machine) (x : ℕ) (B : Machine) (y : ℕ) (C : Machine) (z : ℕ) → Alike A x B y → Alike B y C z → Alike A x C z
alike_trans A x B y C z a b h = a h ∙ b h

pub alike_step : (A : Machine) (x : ℕ) (B : Machine) (y : ℕ) → Alike A x B y → (c : ℕ) → Alike A (step A x c) B (step B y c)
alike_step A x B y a c h = a (c ∷ h)

pub zeros_alike : (A B : Machine) → Alike A 0 B 0
zeros_alike A B h = ap is_state (after-zero A h ∙ sym (after-zero B h))

-- what is in one of a and c is in one of a and b, or of b and c
pub in_one_cotrans : (a b c : Bool) → T (in_one a c) → T (in_one a b) ⊎ T (in_one b c)
in_one_cotrans true true c t = inr t
in_one_cotrans true false c t = inl tt
in_one_cotrans false true c t = inl tt
in_one_cotrans false false c t = inr t

pub in_one-sym : (a b : Bool) → T (in_one a b) → T (in_one b a)
in_one-sym true true t = t
in_one-sym true false t = t
in_one-sym false true t = t
in_one-sym false false t = t

pub in_one_self : (a : Bool) → T (in_one a a) → ⊥
in_one_self true t = t
in_one_self false t = t

pub same_of_not-in_one : (a b : Bool) → (T (in_one a b) → ⊥) → a ≡ b
same_of_not-in_one true true n = refl
same_of_not-in_one true false n = absurd (n tt)
same_of_not-in_one false true n = absurd (n tt)
same_of_not-in_one false false n = refl

pub in_one_dec : (a b : Bool) → Dec (T (in_one a b))
in_one_dec true true = no (λ t. t)
in_one_dec true false = yes tt
in_one_dec false true = yes tt
in_one_dec false false = no (λ t. t)

pub distinguishes_cotrans : (A : Machine) (x : ℕ) (B : Machine) (y : ℕ) (C : Machine) (z : ℕ) (h : History)
    → Distinguishes A x C z h → Distinguishes A x B y h ⊎ Distinguishes B y C z h
distinguishes_cotrans A x B y C z h = in_one_cotrans (possible_from A x h) (possible_from B y h) (possible_from C z h)

pub distinguishes_dec : (A : Machine) (x : ℕ) (B : Machine) (y : ℕ) (h : History) → Dec (Distinguishes A x B y h)
distinguishes_dec A x B y h = in_one_dec (possible_from A x h) (possible_from B y h)

-- alike are the states that no history tells apart
pub alike_of_not_distinguished : (A : Machine) (x : ℕ) (B : Machine) (y : ℕ) → ((h : History) → Distinguishes A x B y h → ⊥) → Alike A x B y
alike_of_not_distinguished A x B y n h = same_of_not-in_one (possible_from A x h) (possible_from B y h) (n h)

pub not_distinguished_of_alike : (A : Machine) (x : ℕ) (B : Machine) (y : ℕ) → Alike A x B y → (h : History) → Distinguishes A x B y h → ⊥
not_distinguished_of_alike A x B y a h t = in_one_self (possible_from B y h) (rw (a h) at t)
