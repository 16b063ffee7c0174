-- A product of up to four numbers of at most 256, as a loop multiplies them: it fits a word.
use mathlib.Core.Path.{◌≡◌, refl}
use Prim.Native.Nat.{ℕ, zero, suc, ◌+◌, ◌*◌, ◌^◌, ◌<◌, ◌≤◌}
use native.Mathlib.Nat.{mul-le-mul, pow-suc, pow-le-pow_right, le_refl, le_trans, le-mul_of_pos_right}
use native.Mathlib.Decide.{dec_le}
use native.Mathlib.Numerals.{add-one}
use native.Mathlib.Omega.{arith}
use Rattle.definitions.specs.Bytes.{product}

module _ (f : ℕ → ℕ) where
  -- q is the product of the first i numbers
  abbrev pub Multiplied : ℕ → ℕ → Type 0
  Multiplied i q = (q ≡ product i f) × (q ≤ 256 ^ i)

  pub multiplied_none : Multiplied 0 1
  multiplied_none = (refl, le_refl 1)

  pub multiplied_more : (i q x : ℕ) → Multiplied i q → x ≡ f i → x ≤ 256 → Multiplied (i + 1) (q * x)
  multiplied_more i q x m e l = (rw (add-one, m.0, e), rw (add-one, pow-suc) (mul-le-mul m.1 l))

  -- where no factor is 0, the product of more of them is no less
  pub product_grows : ((i : ℕ) → 1 ≤ f i) → (i n : ℕ) → i ≤ n → product i f ≤ product n f
  product_grows some i zero l = let e : i ≡ 0 = omega arith in rw e (le_refl 1)
  product_grows some i (suc n) l = go (dec_le i n) (product_grows some i n)
    where
      go : Dec (i ≤ n) → (i ≤ n → product i f ≤ product n f) → product i f ≤ product n f * f n
      go (yes h) ih = le_trans (ih h) (le-mul_of_pos_right (product n f) (some n))
      go (no h) ih = let e : i ≡ suc n = omega arith in rw e (le_refl (product n f * f n))

-- four factors
pub four_fit : (i q : ℕ) → q ≤ 256 ^ i → i ≤ 4 → q ≤ 4294967296
four_fit i q m l = le_trans m (pow-le-pow_right {n = 256} (omega arith) l)

-- one factor more fits a word
pub next_fits : (i q x : ℕ) → q ≤ 256 ^ i → i < 4 → x ≤ 256 → q * x < 18446744073709551616
next_fits i q x m l h =
    let k : q * x ≤ 4294967296 * 256 = mul-le-mul (four_fit i q m (omega arith)) h in omega arith
