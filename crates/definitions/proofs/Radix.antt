-- Numbers by their digits in mixed radix, where digit j is one of `sizes j` values: lowest digit first, as valuations are numbered, and highest digit
-- first, as requests are. Both ways, the numbers below the product of the sizes and the lists of digits correspond one to one.
use mathlib.Core.Path.{◌≡◌, ap, sym, ◌∙◌}
use mathlib.Core.Logic.{◌⊎◌, inl, inr}
use Prim.Native.Nat.{ℕ, zero, suc, ◌+◌, ◌-◌, ◌*◌, ◌/◌, ◌%◌, ◌≤◌, ◌<◌}
use native.Mathlib.Nat.{not-suc-le-zero, mod-one, mod-lt, mod-eq_of_lt, mul_comm, mul-pos, div-one, div-add-mod', div-lt_iff_lt-mul, div-div-eq-div-mul}
use native.Mathlib.Omega.{arith}
use lib.Arith.{lt-one, digits_lt, digits_div, digits_mod, mod-mul}
use Rattle.automaton.specs.Below.{fold_below}
use Rattle.automaton.proofs.Below.{below_suc}
use Rattle.automaton.proofs.Congruence.{fold_below-same}
use Rattle.definitions.specs.Bytes.{product}

-- the two digits of a number
two-digits-same : {m r s : ℕ} (q t : ℕ) → r < m → s < m → q * m + r ≡ t * m + s → (q ≡ t) × (r ≡ s)
two-digits-same {m} q t lr ls e =
    (sym (digits_div q lr) ∙ ap (λ (x : ℕ). x / m) e ∙ digits_div t ls, sym (digits_mod q lr) ∙ ap (λ (x : ℕ). x % m) e ∙ digits_mod t ls)

-- every digit below n has a value
abbrev pub Sizes : (ℕ → ℕ) → ℕ → Type 0
Sizes sizes n = (j : ℕ) → j < n → 1 ≤ sizes j

-- the digits below n are within their sizes
abbrev pub Digits : (ℕ → ℕ) → ℕ → (ℕ → ℕ) → Type 0
Digits sizes n digits = (j : ℕ) → j < n → digits j < sizes j

-- ---- the lowest digit first
abbrev pub low_number : (ℕ → ℕ) → ℕ → (ℕ → ℕ) → ℕ
low_number sizes n digits = fold_below n 0 (λ j u. u + digits j * product j sizes)

abbrev pub low_digit : (ℕ → ℕ) → ℕ → ℕ → ℕ
low_digit sizes v j = v / product j sizes % sizes j

-- ---- the highest digit first
abbrev pub high_number : (ℕ → ℕ) → ℕ → (ℕ → ℕ) → ℕ
high_number sizes n digits = fold_below n 0 (λ j r. r * sizes j + digits j)

-- the product of the sizes after j
abbrev pub high_worth : (ℕ → ℕ) → ℕ → ℕ → ℕ
high_worth sizes n j = product (n - suc j) (λ i. sizes (suc j + i))

abbrev pub high_digit : (ℕ → ℕ) → ℕ → ℕ → ℕ → ℕ
high_digit sizes n r j = r / high_worth sizes n j % sizes j

module _ (sizes : ℕ → ℕ) where
  pub product-some : (n : ℕ) → Sizes sizes n → 1 ≤ product n sizes
  product-some zero some = omega arith
  product-some (suc n) some = mul-pos (product-some n (λ j l. some j (omega arith))) (some n (omega arith))

  digits-some : (n : ℕ) (digits : ℕ → ℕ) → Digits sizes n digits → Sizes sizes n
  digits-some n digits d j l = omega (arith, d j l)

  pub low_below : (n : ℕ) (digits : ℕ → ℕ) → Digits sizes n digits → low_number sizes n digits < product n sizes
  low_below zero digits d = omega arith
  low_below (suc n) digits d =
      omega (arith, digits_lt (d n (omega arith)) (low_below n digits (λ j l. d j (omega arith))), mul_comm (sizes n) (product n sizes))

  -- the digits of v give v back, up to the product of the sizes
  low_of_digits : (n : ℕ) → Sizes sizes n → (v : ℕ) → low_number sizes n (low_digit sizes v) ≡ v % product n sizes
  low_of_digits zero some v = sym (mod-one v)
  low_of_digits (suc n) some v =
      let before = low_of_digits n (λ j l. some j (omega arith)) v in
      let both = mod-mul v (some n (omega arith)) (product-some n (λ j l. some j (omega arith))) in
      omega (arith, ap (λ (x : ℕ). v % x) (mul_comm (sizes n) (product n sizes)))

  low-number-same : (n : ℕ) (xs ys : ℕ → ℕ) → ((j : ℕ) → j < n → xs j ≡ ys j) → low_number sizes n xs ≡ low_number sizes n ys
  low-number-same n xs ys same =
      fold_below-same (λ j u. u + xs j * product j sizes) (λ j u. u + ys j * product j sizes) 0 n (λ j u l. ap (λ (d : ℕ). u + d * product j sizes) (same j l))

  low_same : (n : ℕ) (xs ys : ℕ → ℕ) → Digits sizes n xs → Digits sizes n ys → low_number sizes n xs ≡ low_number sizes n ys
      → (j : ℕ) → j < n → xs j ≡ ys j
  low_same zero xs ys dx dy e j l = absurd (not-suc-le-zero l)
  low_same (suc n) xs ys dx dy e j l = go (low_same n xs ys dx' dy') (below_suc j n l)
    where
      dx' : Digits sizes n xs
      dx' j l = dx j (omega arith)

      dy' : Digits sizes n ys
      dy' j l = dy j (omega arith)

      both : (xs n ≡ ys n) × (low_number sizes n xs ≡ low_number sizes n ys)
      both = two-digits-same (xs n) (ys n) (low_below n xs dx') (low_below n ys dy') (omega arith)

      go : (low_number sizes n xs ≡ low_number sizes n ys → (j : ℕ) → j < n → xs j ≡ ys j) → (j < n) ⊎ (j ≡ n) → xs j ≡ ys j
      go ih (inl b) = ih both.1 j b
      go ih (inr b) = rw b both.0

  pub low-digit-below : (v j : ℕ) → 1 ≤ sizes j → low_digit sizes v j < sizes j
  low-digit-below v j some = mod-lt (v / product j sizes) some

  pub low_number_law : (n : ℕ) → Sizes sizes n → (v : ℕ) → v < product n sizes → low_number sizes n (low_digit sizes v) ≡ v
  low_number_law n some v l = low_of_digits n some v ∙ mod-eq_of_lt l

  -- numbers with the same digits are the same
  pub low_unique : (n : ℕ) → Sizes sizes n → (u v : ℕ) → u < product n sizes → v < product n sizes
      → ((j : ℕ) → j < n → low_digit sizes u j ≡ low_digit sizes v j) → u ≡ v
  low_unique n some u v lu lv same =
      sym (low_number_law n some u lu) ∙ low-number-same n (low_digit sizes u) (low_digit sizes v) same ∙ low_number_law n some v lv

  pub low_digit_law : (n : ℕ) (digits : ℕ → ℕ) → Digits sizes n digits → (j : ℕ) → j < n → low_digit sizes (low_number sizes n digits) j ≡ digits j
  low_digit_law n digits d = low_same n (low_digit sizes (low_number sizes n digits)) digits (λ j l. low-digit-below (low_number sizes n digits) j (some j l)) d
      (low_number_law n some (low_number sizes n digits) (low_below n digits d))
    where
      some : Sizes sizes n
      some = digits-some n digits d

  -- ---- the highest digit first
  pub high_below : (n : ℕ) (digits : ℕ → ℕ) → Digits sizes n digits → high_number sizes n digits < product n sizes
  high_below zero digits d = omega arith
  high_below (suc n) digits d = digits_lt (high_below n digits (λ j l. d j (omega arith))) (d n (omega arith))

  high_same : (n : ℕ) (xs ys : ℕ → ℕ) → Digits sizes n xs → Digits sizes n ys → high_number sizes n xs ≡ high_number sizes n ys
      → (j : ℕ) → j < n → xs j ≡ ys j
  high_same zero xs ys dx dy e j l = absurd (not-suc-le-zero l)
  high_same (suc n) xs ys dx dy e j l = go (high_same n xs ys (λ j l. dx j (omega arith)) (λ j l. dy j (omega arith))) (below_suc j n l)
    where
      both : (high_number sizes n xs ≡ high_number sizes n ys) × (xs n ≡ ys n)
      both = two-digits-same (high_number sizes n xs) (high_number sizes n ys) (dx n (omega arith)) (dy n (omega arith)) e

      go : (high_number sizes n xs ≡ high_number sizes n ys → (j : ℕ) → j < n → xs j ≡ ys j) → (j < n) ⊎ (j ≡ n) → xs j ≡ ys j
      go ih (inl b) = ih both.0 j b
      go ih (inr b) = rw b both.1

  -- one digit more makes each digit before it worth more
  worth_more : (n j : ℕ) → j < n → high_worth sizes (suc n) j ≡ sizes n * high_worth sizes n j
  worth_more n j l =
      let more : suc n - suc j ≡ suc (n - suc j) = omega arith in
      let last : suc j + (n - suc j) ≡ n = omega arith in
      rw (more, last) (mul_comm (high_worth sizes n j) (sizes n))

  pub digit-before : (n r j : ℕ) → j < n → high_digit sizes (suc n) r j ≡ high_digit sizes n (r / sizes n) j
  digit-before n r j l = rw (worth_more n j l, div-div-eq-div-mul r (sizes n) (high_worth sizes n j))

  pub digit-last : (n r : ℕ) → high_digit sizes (suc n) r n ≡ r % sizes n
  digit-last n r = let none : suc n - suc n ≡ 0 = omega arith in rw (none, div-one r)

  pub high_digit-below : (n r j : ℕ) → 1 ≤ sizes j → high_digit sizes n r j < sizes j
  high_digit-below n r j some = mod-lt (r / high_worth sizes n j) some

  high_number-same : (n : ℕ) (xs ys : ℕ → ℕ) → ((j : ℕ) → j < n → xs j ≡ ys j) → high_number sizes n xs ≡ high_number sizes n ys
  high_number-same n xs ys same = fold_below-same (λ j r. r * sizes j + xs j) (λ j r. r * sizes j + ys j) 0 n (λ j r l. ap (λ (d : ℕ). r * sizes j + d) (same j l))

  pub high_number_law : (n : ℕ) → Sizes sizes n → (r : ℕ) → r < product n sizes → high_number sizes n (high_digit sizes n r) ≡ r
  high_number_law zero some r l = sym (lt-one l)
  high_number_law (suc n) some r l =
      let above = high_number_law n (λ j l. some j (omega arith)) (r / sizes n) ((div-lt_iff_lt-mul (some n (omega arith))).1 l) in
      let same = high_number-same n (high_digit sizes (suc n) r) (high_digit sizes n (r / sizes n)) (digit-before n r) in
      rw (same, above, digit-last n r) (div-add-mod' r (sizes n))

  pub high_unique : (n : ℕ) → Sizes sizes n → (q r : ℕ) → q < product n sizes → r < product n sizes
      → ((j : ℕ) → j < n → high_digit sizes n q j ≡ high_digit sizes n r j) → q ≡ r
  high_unique n some q r lq lr same =
      sym (high_number_law n some q lq) ∙ high_number-same n (high_digit sizes n q) (high_digit sizes n r) same ∙ high_number_law n some r lr

  pub high_digit_law : (n : ℕ) (digits : ℕ → ℕ) → Digits sizes n digits → (j : ℕ) → j < n → high_digit sizes n (high_number sizes n digits) j ≡ digits j
  high_digit_law n digits d = high_same n (high_digit sizes n (high_number sizes n digits)) digits
      (λ j l. high_digit-below n (high_number sizes n digits) j (some j l)) d (high_number_law n some (high_number sizes n digits) (high_below n digits d))
    where
      some : Sizes sizes n
      some = digits-some n digits d
