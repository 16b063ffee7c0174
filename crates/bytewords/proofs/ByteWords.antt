-- Two words are equal exactly when their eight bytes are, wherever they stand. Parts of two strings that are the same, put together and taken apart; and
-- differences of words gathered by bits.
use mathlib.Core.Path.{◌≡◌, ap₂}
use mathlib.Core.Logic.{◌↔◌}
use mathlib.Core.List.{List, []}
use Prim.Native.Nat.{ℕ, zero, suc, ◌+◌, ◌-◌, ◌*◌, ◌≤◌, ◌<◌}
use native.Mathlib.Nat.{add-zero, add_assoc}
use native.Mathlib.Omega.{arith}
use native.Mathlib.Decide.{dec_lt}
use lib.Bits.{bit_or, bit_xor, and_le_l, and_le_r, xor_add_and, xor_self}
use lib.Dec.{lit<}
use lib.ListN.{get_or}
use Rattle.std.proofs.lemmas.Nat.{le_or_l, le_or_r}
use Rattle.bytewords.specs.ByteWords.{half_at, word_at, HalfBytes, WordBytes, SamePart}

-- ---- parts of two strings
module _ (xs ys : List ℕ) (j k : ℕ) where
  -- the numbers i places on
  abbrev SameAt : ℕ → Type 0
  SameAt i = get_or xs (j + i) 0 ≡ get_or ys (k + i) 0

  part_of_four : get_or xs j 0 ≡ get_or ys k 0 → SameAt 1 → SameAt 2 → SameAt 3 → SamePart 4 xs j ys k
  part_of_four a b c d zero l = rw (add-zero j, add-zero k) a
  part_of_four a b c d (suc zero) l = b
  part_of_four a b c d (suc (suc zero)) l = c
  part_of_four a b c d (suc (suc (suc zero))) l = d
  part_of_four a b c d (suc (suc (suc (suc i)))) l = absurd (omega arith)

  part_first : (n : ℕ) → 0 < n → SamePart n xs j ys k → get_or xs j 0 ≡ get_or ys k 0
  part_first n l all = rw (add-zero j, add-zero k) at (all 0 l)

  pub part_of_one : (get_or xs j 0 ≡ get_or ys k 0) ↔ SamePart 1 xs j ys k
  part_of_one = ((λ e i b. let is : i ≡ 0 = omega arith in rw (is, add-zero j, add-zero k) e), part_first 1 (omega arith))

  pub parts-joined : (m n : ℕ) → SamePart m xs j ys k → SamePart n xs (j + m) ys (k + m) → SamePart (m + n) xs j ys k
  parts-joined m n low high i l = go (dec_lt i m)
    where
      go : Dec (i < m) → SameAt i
      go (yes p) = low i p
      go (no p) =
          let x : j + m + (i - m) ≡ j + i = omega arith in
          let y : k + m + (i - m) ≡ k + i = omega arith in
          rw (x, y) at (high (i - m) (omega arith))

  pub parts_apart : (m n : ℕ) → SamePart (m + n) xs j ys k → SamePart m xs j ys k × SamePart n xs (j + m) ys (k + m)
  parts_apart m n all = ((λ i l. all i (omega arith)), λ i l. rw (add_assoc j m i, add_assoc k m i) (all (m + i) (omega arith)))

  -- ---- four bytes
  half_same : HalfBytes xs j → HalfBytes ys k → half_at xs j ≡ half_at ys k → SamePart 4 xs j ys k
  half_same X Y e = part_of_four (omega arith) (omega arith) (omega arith) (omega arith)

  same_half : SamePart 4 xs j ys k → half_at xs j ≡ half_at ys k
  same_half all = rw (part_first 4 (omega arith) all, all 1 (omega arith), all 2 (omega arith), all 3 (omega arith))

-- a word's halves are told from it
halves : (a b p q : ℕ) → a < 0x100000000 → b < 0x100000000 → a + 0x100000000 * p ≡ b + 0x100000000 * q → (a ≡ b) × (p ≡ q)
halves a b p q l m e = (omega arith, omega arith)

-- ---- two words are equal exactly when their eight bytes are, at any place of either string
module _ (xs ys : List ℕ) (j k : ℕ) (X : WordBytes xs j) (Y : WordBytes ys k) where
  pub words-equal : (word_at xs j ≡ word_at ys k) ↔ SamePart 8 xs j ys k
  words-equal = (
    (λ e.
        let half = halves (half_at xs j) (half_at ys k) (half_at xs (j + 4)) (half_at ys (k + 4)) (omega (arith, X.0)) (omega (arith, Y.0)) e in
        parts-joined xs ys j k 4 4 (half_same xs ys j k X.0 Y.0 half.0) (half_same xs ys (j + 4) (k + 4) X.1 Y.1 half.1)),
    λ all.
        let part = parts_apart xs ys j k 4 4 all in
        ap₂ (λ (a b : ℕ). a + 0x100000000 * b) (same_half xs ys j k part.0) (same_half xs ys (j + 4) (k + 4) part.1),
  )

-- the same of two words that were read
pub words_read : (xs ys : List ℕ) (j k : ℕ) {x y : ℕ} → (x ≡ word_at xs j) × WordBytes xs j → (y ≡ word_at ys k) × WordBytes ys k → (x ≡ y) ↔ SamePart 8 xs j ys k
words_read xs ys j k X Y = rw (X.0, Y.0) (words-equal xs ys j k X.1 Y.1)

-- a word of 0 has the bytes of a word that stands in no string
pub word_zeros : (l : List ℕ) (k : ℕ) → WordBytes l k → word_at l k ≡ 0 → (j : ℕ) → k ≤ j → j < k + 8 → get_or l j 0 ≡ 0
word_zeros l k B e j low high =
    let zeros : HalfBytes [] k = (lit< tt, lit< tt, lit< tt, lit< tt) in
    let place : k + (j - k) ≡ j = omega arith in
    rw place at ((words-equal l [] k k B (zeros, zeros)).0 e (j - k) (omega arith))

-- ---- differences gathered by bits
or_zero : (a b : ℕ) → (bit_or a b ≡ 0) ↔ ((a ≡ 0) × (b ≡ 0))
or_zero a b = (
  (λ e. (omega (arith, le_or_l a b), omega (arith, le_or_r a b))),
  λ z. rw (z.0, z.1),
)

xor_zero : (a b : ℕ) → (bit_xor a b ≡ 0) ↔ (a ≡ b)
xor_zero a b = (
  (λ e. let sum = xor_add_and a b in let l = and_le_l a b in let r = and_le_r a b in omega arith),
  λ e. rw e (xor_self b),
)

-- the difference of two numbers that are equal exactly when m places are, besides what n places before them gave
pub gathered_more : (xs ys : List ℕ) (j k m n x y gathered : ℕ) → (gathered ≡ 0) ↔ SamePart n xs j ys k → (x ≡ y) ↔ SamePart m xs (j + n) ys (k + n)
    → (bit_or gathered (bit_xor x y) ≡ 0) ↔ SamePart (n + m) xs j ys k
gathered_more xs ys j k m n x y gathered before equal = (
  (λ e.
      let none = (or_zero gathered (bit_xor x y)).0 e in
      parts-joined xs ys j k n m (before.0 none.0) (equal.0 ((xor_zero x y).0 none.1))),
  λ all.
      let part = parts_apart xs ys j k n m all in
      (or_zero gathered (bit_xor x y)).1 (before.1 part.0, (xor_zero x y).1 (equal.1 part.1)),
)
