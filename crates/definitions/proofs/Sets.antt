-- Sets of valuations as numbers: which valuations a set has, that a set is given by them, and that one which is not empty has one. A union over the
-- numbers below n that pass a test has what one of the united sets has.
use mathlib.Core.Path.{◌≡◌, refl, ap, sym, ◌∙◌}
use mathlib.Core.Bool.{Bool, cond, true, false, not, true≢false, false≢true, or-false, ◌&&◌, ◌||◌}
use mathlib.Core.Logic.{◌↔◌, ◌⊎◌, inl, inr}
use mathlib.Core.List.{List}
use Prim.Native.Nat.{ℕ, zero, suc, ◌+◌, ◌-◌, ◌*◌, ◌/◌, ◌%◌, ◌^◌, ◌<◌, max}
use native.Mathlib.Nat.{zero-div, one-mul, pow-suc, div-eq_of_lt, div_self}
use native.Mathlib.Omega.{arith}
use lib.Dec.{eqb, eqb-suc-zero, lit<}
use lib.Bits.{bit_or, or_step, or_shr, or_lt}
use lib.Pow.{shl_exact, pow-lt, pow-add, pow_pos, shl-shr}
use borrow.Author.Tests.{eqb-true, eqb-false, eq-eqb, ne_eqb}
use Rattle.automaton.specs.Below.{fold_below, any_below}
use Rattle.automaton.specs.Machine.{is_state}
use Rattle.automaton.proofs.Order.{tri}
use Rattle.automaton.proofs.Below.{and-true, or-true, any_below_law, any_below_at}
use Rattle.definitions.specs.Bytes.{bit, product}
use Rattle.definitions.specs.Valuation.{start_valuation}
use Rattle.definitions.specs.Situation.{empty_set, insert, union, start_situation, is_empty}
use Rattle.definitions.proofs.Radix.{low_unique}

-- valuation v is in the set
abbrev pub Has : ℕ → ℕ → Type 0
Has set v = bit set v ≡ true

-- the set of one valuation as the code shifts it, `1 << v` in a word of 64 bits
pub one_shifted : (v : ℕ) → v < 64 → 1 * 2 ^ v % 2 ^ 64 ≡ 2 ^ v
one_shifted v h = shl_exact {a = 1} 1 v 64 (lit< tt) (omega arith) ∙ one-mul (2 ^ v)

-- ---- which valuations a set has
-- the four cases of two digits below 2
pub two-digit-cases : (P : ℕ → ℕ → Type 0) → P 0 0 → P 0 1 → P 1 0 → P 1 1 → (x y : ℕ) → x < 2 → y < 2 → P x y
two-digit-cases P a b c d zero zero lx ly = a
two-digit-cases P a b c d zero (suc zero) lx ly = b
two-digit-cases P a b c d (suc zero) zero lx ly = c
two-digit-cases P a b c d (suc zero) (suc zero) lx ly = d
two-digit-cases P a b c d zero (suc (suc y)) lx ly = absurd (omega arith)
two-digit-cases P a b c d (suc zero) (suc (suc y)) lx ly = absurd (omega arith)
two-digit-cases P a b c d (suc (suc x)) y lx ly = absurd (omega arith)

one_of_two : (x y : ℕ) → x < 2 → y < 2 → eqb (max x y) 1 ≡ (eqb x 1 || eqb y 1)
one_of_two = two-digit-cases (λ x y. eqb (max x y) 1 ≡ (eqb x 1 || eqb y 1)) refl refl refl refl

pub bit-union : (a b u : ℕ) → bit (union a b) u ≡ (bit a u || bit b u)
bit-union a b u =
    let last : bit_or (a / 2 ^ u) (b / 2 ^ u) % 2 ≡ max (a / 2 ^ u % 2) (b / 2 ^ u % 2) = omega (arith, or_step (a / 2 ^ u) (b / 2 ^ u)) in
    ap (λ (x : ℕ). eqb (x % 2) 1) (or_shr a b u) ∙ ap (λ (x : ℕ). eqb x 1) last ∙ one_of_two (a / 2 ^ u % 2) (b / 2 ^ u % 2) (omega arith) (omega arith)

pub bit-empty : (u : ℕ) → bit empty_set u ≡ false
bit-empty u = rw (zero-div (2 ^ u))

-- the set of v alone
bit_single : (v u : ℕ) → bit (2 ^ v) u ≡ eqb u v
bit_single v u = go (tri u v)
  where
    above : (k : ℕ) → v ≡ suc k + u → 2 ^ v / 2 ^ u % 2 ≡ 0
    above k e =
        let shifted : 2 ^ v / 2 ^ u ≡ 2 ^ suc k = ap (λ (x : ℕ). 2 ^ x / 2 ^ u) e ∙ ap (λ (x : ℕ). x / 2 ^ u) (pow-add 2 (suc k) u) ∙ shl-shr (2 ^ suc k) u in
        omega (arith, pow-suc 2 k)

    go : (u < v) ⊎ ((u ≡ v) ⊎ (v < u)) → bit (2 ^ v) u ≡ eqb u v
    go (inl l) = ap (λ (x : ℕ). eqb x 1) (above (v - suc u) (omega arith)) ∙ sym (ne_eqb u v (λ e. omega arith))
    go (inr (inl e)) = rw e (ap (λ (x : ℕ). eqb (x % 2) 1) (div_self (pow_pos v)) ∙ sym (eq-eqb v v refl))
    go (inr (inr l)) = ap (λ (x : ℕ). eqb (x % 2) 1) (div-eq_of_lt (pow-lt l)) ∙ sym (ne_eqb u v (λ e. omega arith))

pub has_single : (v u : ℕ) → Has (2 ^ v) u ↔ (v ≡ u)
has_single v u = (λ h. sym (eqb-true u v (sym (bit_single v u) ∙ h)), λ e. bit_single v u ∙ eq-eqb u v (sym e))

pub bit-insert : (v set u : ℕ) → bit (insert v set) u ≡ (bit set u || eqb u v)
bit-insert v set u = bit-union set (2 ^ v) u ∙ ap (λ (b : Bool). bit set u || b) (bit_single v u)

-- a set with v inserted has v and what it had
pub has-insert : (v set u : ℕ) → Has (insert v set) u ↔ ((u ≡ v) ⊎ Has set u)
has-insert v set u = (λ h. into (or-true (bit set u) (eqb u v) (sym (bit-insert v set u) ∙ h)), λ h. bit-insert v set u ∙ back (bit set u) refl h)
  where
    into : Has set u ⊎ (eqb u v ≡ true) → (u ≡ v) ⊎ Has set u
    into (inl h) = inr h
    into (inr e) = inl (eqb-true u v e)

    back : (b : Bool) → bit set u ≡ b → (u ≡ v) ⊎ Has set u → (b || eqb u v) ≡ true
    back true q h = refl
    back false q (inl e) = eq-eqb u v e
    back false q (inr h) = absurd (false≢true (sym q ∙ h))

-- the start has its valuation alone
pub bit-start : (p : List ℕ) (u : ℕ) → bit (start_situation p) u ≡ eqb u (start_valuation p)
bit-start p u = bit-insert (start_valuation p) empty_set u ∙ ap (λ (b : Bool). b || eqb u (start_valuation p)) (bit-empty u)

pub start_has : (p : List ℕ) (u : ℕ) → Has (start_situation p) u ↔ (u ≡ start_valuation p)
start_has p u = (λ h. eqb-true u (start_valuation p) (sym (bit-start p u) ∙ h), λ e. bit-start p u ∙ eq-eqb u (start_valuation p) e)

-- ---- sets of valuations below n are the numbers below 2 ^ n
pub union-below : (n a b : ℕ) → a < 2 ^ n → b < 2 ^ n → union a b < 2 ^ n
union-below n a b la lb = or_lt n a b la lb

-- a bit is a digit of two values
abbrev two : ℕ → ℕ
two u = 2

two-product : (n : ℕ) → product n two ≡ 2 ^ n
two-product zero = refl
two-product (suc n) = ap (λ (x : ℕ). x * 2) (two-product n) ∙ sym (pow-suc 2 n)

digit-same : (x y : ℕ) → x < 2 → y < 2 → eqb x 1 ≡ eqb y 1 → x ≡ y
digit-same x y lx ly e = go (eqb y 1) e refl
  where
    go : (b : Bool) → eqb x 1 ≡ b → eqb y 1 ≡ b → x ≡ y
    go true p q = eqb-true x 1 p ∙ sym (eqb-true y 1 q)
    go false p q = omega (arith, eqb-false x 1 p, eqb-false y 1 q)

-- sets with the same valuations are the same
pub sets_same : (n a b : ℕ) → a < 2 ^ n → b < 2 ^ n → ((u : ℕ) → u < n → bit a u ≡ bit b u) → a ≡ b
sets_same n a b la lb same = low_unique two n (λ j l. omega arith) a b (rw (two-product n) la) (rw (two-product n) lb) digit
  where
    digit : (u : ℕ) → u < n → a / product u two % 2 ≡ b / product u two % 2
    digit u l = rw (two-product u) (digit-same (a / 2 ^ u % 2) (b / 2 ^ u % 2) (omega arith) (omega arith) (same u l))

-- ---- situations: sets that are not empty
pub is_empty_law : (set : ℕ) → is_empty set ≡ not (is_state set)
is_empty_law zero = refl
is_empty_law (suc n) = eqb-suc-zero n

pub has-state : (set u : ℕ) → Has set u → is_state set ≡ true
has-state zero u h = absurd (true≢false (sym h ∙ bit-empty u))
has-state (suc n) u h = refl

pub state-has : (n set : ℕ) → set < 2 ^ n → is_state set ≡ true → (u : ℕ) × (u < n) × Has set u
state-has n set l p = go (any_below n (bit set)) refl
  where
    none : any_below n (bit set) ≡ false → (u : ℕ) → u < n → (b : Bool) → bit set u ≡ b → b ≡ bit empty_set u
    none q u l true e = absurd (true≢false (sym (any_below_law (bit set) n u l e) ∙ q))
    none q u l false e = sym (bit-empty u)

    go : (b : Bool) → any_below n (bit set) ≡ b → (u : ℕ) × (u < n) × Has set u
    go true q = any_below_at (bit set) n q
    go false q =
        let empty : set ≡ 0 = sets_same n set empty_set l (pow_pos n) (λ u l. none q u l (bit set u) refl) in
        absurd (false≢true (ap is_state (sym empty) ∙ p))

-- ---- the union of those of the sets below n whose numbers pass a test
abbrev pub gathered : (ℕ → Bool) → (ℕ → ℕ) → ℕ → ℕ
gathered test sets n = fold_below n empty_set (λ k set. cond (test k) (union set (sets k)) set)

module _ (test : ℕ → Bool) (sets : ℕ → ℕ) where
  pub gathered-below : (m n : ℕ) → ((k : ℕ) → k < n → sets k < 2 ^ m) → gathered test sets n < 2 ^ m
  gathered-below m zero h = pow_pos m
  gathered-below m (suc n) h = go (test n) (gathered-below m n (λ k l. h k (omega arith)))
    where
      go : (b : Bool) → gathered test sets n < 2 ^ m → cond b (union (gathered test sets n) (sets n)) (gathered test sets n) < 2 ^ m
      go true l = union-below m (gathered test sets n) (sets n) l (h n (omega arith))
      go false l = l

  bit-gathered : (n u : ℕ) → bit (gathered test sets n) u ≡ any_below n (λ k. test k && bit (sets k) u)
  bit-gathered zero u = bit-empty u
  bit-gathered (suc n) u = go (test n) (bit-gathered n u)
    where
      go : (b : Bool) → bit (gathered test sets n) u ≡ any_below n (λ k. test k && bit (sets k) u)
          → bit (cond b (union (gathered test sets n) (sets n)) (gathered test sets n)) u
          ≡ (any_below n (λ k. test k && bit (sets k) u) || (b && bit (sets n) u))
      go true ih = bit-union (gathered test sets n) (sets n) u ∙ ap (λ (b : Bool). b || bit (sets n) u) ih
      go false ih = ih ∙ sym (or-false (any_below n (λ k. test k && bit (sets k) u)))

  pub has-gathered : (n u : ℕ) → Has (gathered test sets n) u ↔ ((k : ℕ) × (k < n) × (test k ≡ true) × Has (sets k) u)
  has-gathered n u = (into, back)
    where
      into : Has (gathered test sets n) u → (k : ℕ) × (k < n) × (test k ≡ true) × Has (sets k) u
      into h =
          let hit = any_below_at (λ k. test k && bit (sets k) u) n (sym (bit-gathered n u) ∙ h) in
          let both = and-true (test hit.0) (bit (sets hit.0) u) hit.2 in
          (hit.0, hit.1, both.0, both.1)

      back : (k : ℕ) × (k < n) × (test k ≡ true) × Has (sets k) u → Has (gathered test sets n) u
      back (k, l, t, h) = bit-gathered n u ∙ any_below_law (λ k. test k && bit (sets k) u) n k l (rw t h)
