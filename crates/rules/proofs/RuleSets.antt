-- Sets of rules as the bits of a number: what two sets share, the lowest member, the members that pass a test, and the members from k on.
use mathlib.Core.Path.{◌≡◌, refl, sym, ap, ◌∙◌}
use mathlib.Core.Bool.{Bool, cond, true, false, true≢false, or-false, ◌&&◌}
use mathlib.Core.Logic.{◌⊎◌, inl, inr}
use Prim.Native.Nat.{ℕ, zero, suc, ◌+◌, ◌-◌, ◌/◌, ◌%◌, ◌^◌, ◌<◌, ◌≤◌, min}
use native.Mathlib.Nat.{lt_of_le_of_lt, lt_of_lt_of_le, div-one, div-eq_of_lt, div-div-eq-div-mul, pow-succ'}
use native.Mathlib.Decide.{dec_lt}
use native.Mathlib.Numerals.{add-one}
use native.Mathlib.Omega.{arith}
use lib.Bits.{bit_and, and_step, and_shr}
use lib.Count.{count_trailing_zeros, under}
use lib.Dec.{eqb}
use lib.Pow.{shr-shr, shr_le}
use borrow.Author.Tests.{eq-eqb, ne_eqb}
use Rattle.automaton.proofs.Machine.{is_state_law}
use Rattle.automaton.proofs.Below.{Lowest, below_suc}
use Rattle.automaton.proofs.Congruence.{fold_below-same}
use Rattle.definitions.specs.Bytes.{bit}
use Rattle.definitions.specs.Situation.{empty_set, insert}
use Rattle.definitions.proofs.Sets.{two-digit-cases, bit-empty, bit-insert, state-has}
use Rattle.rules.specs.RuleSets.{with_passing, passing}

-- ---- what two sets share
both_of_two : (x y : ℕ) → x < 2 → y < 2 → eqb (min x y) 1 ≡ (eqb x 1 && eqb y 1)
both_of_two = two-digit-cases (λ x y. eqb (min x y) 1 ≡ (eqb x 1 && eqb y 1)) refl refl refl refl

pub bit_and_law : (a b u : ℕ) → bit (bit_and a b) u ≡ (bit a u && bit b u)
bit_and_law a b u =
    let last : bit_and (a / 2 ^ u) (b / 2 ^ u) % 2 ≡ min (a / 2 ^ u % 2) (b / 2 ^ u % 2) = omega (arith, and_step (a / 2 ^ u) (b / 2 ^ u)) in
    ap (λ (x : ℕ). eqb (x % 2) 1) (and_shr a b u) ∙ ap (λ (x : ℕ). eqb x 1) last ∙ both_of_two (a / 2 ^ u % 2) (b / 2 ^ u % 2) (omega arith) (omega arith)

-- ---- the lowest member
bit-first : (n : ℕ) → bit n 0 ≡ eqb (n % 2) 1
bit-first n = ap (λ (x : ℕ). eqb (x % 2) 1) (div-one n)

bit-later : (n i : ℕ) → bit n (suc i) ≡ bit (n / 2) i
bit-later n i = ap (λ (x : ℕ). eqb (x % 2) 1) (ap (λ (x : ℕ). n / x) (pow-succ' 2 i) ∙ sym (div-div-eq-div-mul n 2 (2 ^ i)))

trailing : (k n : ℕ) → Lowest k (bit n) (count_trailing_zeros k n)
unfolding count_trailing_zeros
trailing zero n = record { within = omega arith; passes = λ l. absurd (omega arith); first = λ j l. absurd (omega arith) }
trailing (suc k) n = go (n % 2) refl (trailing k (n / 2))
  where
    go : (r : ℕ) → n % 2 ≡ r → Lowest k (bit (n / 2)) (count_trailing_zeros k (n / 2)) → Lowest (suc k) (bit n) (under r (count_trailing_zeros k (n / 2)))
    go zero e h = record { within = omega (arith, h.within); passes = λ l. bit-later n (count_trailing_zeros k (n / 2)) ∙ h.passes (omega arith); first = low }
      where
        low : (j : ℕ) → j < suc (count_trailing_zeros k (n / 2)) → bit n j ≡ false
        low zero l = bit-first n ∙ ne_eqb (n % 2) 1 (λ q. omega arith)
        low (suc j) l = bit-later n j ∙ h.first j (omega arith)
    go (suc r) e h = record { within = omega arith; passes = λ l. bit-first n ∙ eq-eqb (n % 2) 1 (omega arith); first = λ j l. absurd (omega arith) }

-- ---- the members that pass a test
module _ (f : ℕ → Bool) where
  passing-beyond : (n u : ℕ) → n ≤ u → bit (passing n f) u ≡ false
  passing-beyond zero u l = bit-empty u
  passing-beyond (suc n) u l = go (f n) (passing-beyond n u (omega arith))
    where
      go : (b : Bool) → bit (passing n f) u ≡ false → bit (cond b (insert n (passing n f)) (passing n f)) u ≡ false
      go true h = bit-insert n (passing n f) u ∙ rw (h, ne_eqb u n (λ e. omega arith))
      go false h = h

  pub bit-passing : (n u : ℕ) → u < n → bit (passing n f) u ≡ f u
  bit-passing zero u l = absurd (omega arith)
  bit-passing (suc n) u l = go (f n) refl (below_suc u n l) (bit-passing n u)
    where
      go : (b : Bool) → f n ≡ b → (u < n) ⊎ (u ≡ n) → (u < n → bit (passing n f) u ≡ f u) → bit (cond b (insert n (passing n f)) (passing n f)) u ≡ f u
      go true q (inl h) ih = bit-insert n (passing n f) u ∙ rw (ne_eqb u n (λ e. omega arith), or-false) (ih h)
      go true q (inr e) ih = bit-insert n (passing n f) u ∙ rw (passing-beyond n u (omega arith), eq-eqb u n e) (sym (ap f e ∙ q))
      go false q (inl h) ih = ih h
      go false q (inr e) ih = passing-beyond n u (omega arith) ∙ sym (ap f e ∙ q)

  pub passing-below : (n u : ℕ) → bit (passing n f) u ≡ true → u < n
  passing-below n u e = go (dec_lt u n)
    where
      go : Dec (u < n) → u < n
      go (yes l) = l
      go (no l) = absurd (true≢false (sym e ∙ passing-beyond n u (omega arith)))

pub passing-same : (f g : ℕ → Bool) (n : ℕ) → ((k : ℕ) → k < n → f k ≡ g k) → passing n f ≡ passing n g
passing-same f g n same =
    fold_below-same (with_passing f) (with_passing g) empty_set n (λ k set l. ap (λ (b : Bool). cond b (insert k set) set) (same k l))

-- one number more has been judged
pub passing-next : (f : ℕ → Bool) (k set : ℕ) (b : Bool) (x : ℕ) → set ≡ passing k f → b ≡ f k → x ≡ cond b (insert k set) set → x ≡ passing (k + 1) f
passing-next f k set b x es eb ex = ex ∙ rw (es, eb, add-one)

-- ---- the members from k on
pub bit-from : (set k i : ℕ) → bit (set / 2 ^ k) i ≡ bit set (k + i)
bit-from set k i = ap (λ (x : ℕ). eqb (x % 2) 1) (shr-shr set k i)

pub none_from : (set k i : ℕ) → set / 2 ^ k ≡ 0 → k ≤ i → bit set i ≡ false
none_from set k i e l =
    let at : k + (i - k) ≡ i = omega arith in
    ap (bit set) (sym at) ∙ sym (bit-from set k (i - k)) ∙ ap (λ (x : ℕ). bit x (i - k)) e ∙ bit-empty (i - k)

-- a member of a word of n bits is below n
member_below : (set n u : ℕ) → set < 2 ^ n → bit set u ≡ true → u < n
member_below set n u l e = go (dec_lt u n)
  where
    go : Dec (u < n) → u < n
    go (yes h) = h
    go (no h) = absurd (true≢false (sym e ∙ none_from set n u (div-eq_of_lt l) (omega arith)))

-- the lowest of them, where the bits from k on have been shifted down
pub record Member (set k m : ℕ) : Type 0 where
  pub below : m < 64
  pub here : bit set m ≡ true
  pub none : (i : ℕ) → k ≤ i → i < m → bit set i ≡ false

pub lowest_member : (set k left z : ℕ) → set < 2 ^ 64 → left ≡ set / 2 ^ k → (left ≡ 0 → ⊥) → z ≡ count_trailing_zeros 64 left → Member set k (k + z)
lowest_member set k left z l e some q = record { below = member_below set 64 (k + z) l here; here = here; none = none }
  where
    any : (u : ℕ) × (u < 64) × (bit left u ≡ true)
    any = state-has 64 left (lt_of_le_of_lt (rw e (shr_le set k)) l) (is_state_law left (omega arith))

    low : Lowest 64 (bit left) z
    low = rw q (trailing 64 left)

    at : (j : ℕ) → bit left j ≡ bit set (k + j)
    at j = rw e (bit-from set k j)

    here : bit set (k + z) ≡ true
    here = sym (at z) ∙ low.passes (go (dec_lt z 64))
      where
        go : Dec (z < 64) → z < 64
        go (yes h) = h
        go (no h) = absurd (true≢false (sym any.2 ∙ low.first any.0 (lt_of_lt_of_le any.1 (omega (arith, h)))))

    none : (i : ℕ) → k ≤ i → i < k + z → bit set i ≡ false
    none i a b = let is : k + (i - k) ≡ i = omega (arith, a) in ap (bit set) (sym is) ∙ sym (at (i - k)) ∙ low.first (i - k) (omega (arith, a, b))

pub left-next : (set k left z : ℕ) → left ≡ set / 2 ^ k → left / 2 ^ z / 2 ≡ set / 2 ^ (k + z + 1)
left-next set k left z e = rw e (ap (λ (x : ℕ). x / 2) (shr-shr set k z) ∙ shr-shr set (k + z) 1)
