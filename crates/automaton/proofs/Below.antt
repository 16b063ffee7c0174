-- What the tests, lists, places and greatest values over the numbers below a bound mean, and how many numbers below a bound pass a test. Distinct numbers
-- below n are at most n.
use mathlib.Core.Path.{◌≡◌, refl, ap, sym, ◌∙◌}
use mathlib.Core.Bool.{Bool, cond, true, false, true≢false, false≢true, ◌&&◌, ◌||◌}
use mathlib.Core.Logic.{◌⊎◌, inl, inr}
use mathlib.Core.List.{List, [], ◌∷◌, ◌++◌}
use Prim.Native.Nat.{ℕ, zero, suc, ◌≤◌, ◌<◌, max}
use native.Mathlib.Nat.{not-suc-le-zero}
use native.Mathlib.Omega.{arith}
use native.Mathlib.Decide.{dec_lt}
use lib.Dec.{T, eqb, ltb}
use lib.ListN.{length, get_or, length-append, get_or-append}
use lib.Seq.{get_or_at}
use borrow.Author.Tests.{eqb-true, eq-eqb, ltb-true, ltb-false}
use Rattle.automaton.specs.Below.{all_below, any_below, lowest_below, fold_below, list_below, same_list, suc_positive, place_of, one, count_below}

-- a number below n + 1 is below n or is n
pub below_suc : (k n : ℕ) → k < suc n → (k < n) ⊎ (k ≡ n)
below_suc k n l = go (dec_lt k n)
  where
    go : Dec (k < n) → (k < n) ⊎ (k ≡ n)
    go (yes p) = inl p
    go (no p) = inr (omega arith)

pub is_true : (t : Bool) → T t → t ≡ true
is_true true u = refl
is_true false u = absurd u

pub is_false : (t : Bool) → (t ≡ true → ⊥) → t ≡ false
is_false true f = absurd (f refl)
is_false false f = refl

-- two tests that hold in the same cases are the same
pub same_truth : (a b : Bool) → (a ≡ true → b ≡ true) → (b ≡ true → a ≡ true) → a ≡ b
same_truth true b f g = sym (f refl)
same_truth false true f g = g refl
same_truth false false f g = refl

pub and-true : (a b : Bool) → (a && b) ≡ true → (a ≡ true) × (b ≡ true)
and-true true b e = (refl, e)
and-true false b e = absurd (false≢true e)

pub or-true : (a b : Bool) → (a || b) ≡ true → (a ≡ true) ⊎ (b ≡ true)
or-true true b e = inl refl
or-true false b e = inr e

module _ (f : ℕ → Bool) where
  pub all_below_law : (n : ℕ) → ((k : ℕ) → k < n → f k ≡ true) → all_below n f ≡ true
  all_below_law zero h = refl
  all_below_law (suc n) h = rw (all_below_law n (λ k l. h k (omega arith))) (h n (omega arith))

  pub all-below_at : (n : ℕ) → all_below n f ≡ true → (k : ℕ) → k < n → f k ≡ true
  all-below_at zero e k l = absurd (not-suc-le-zero l)
  all-below_at (suc n) e k l = go (and-true (all_below n f) (f n) e) (all-below_at n) (below_suc k n l)
    where
      go : (all_below n f ≡ true) × (f n ≡ true) → (all_below n f ≡ true → (k : ℕ) → k < n → f k ≡ true) → (k < n) ⊎ (k ≡ n) → f k ≡ true
      go b ih (inl p) = ih b.0 k p
      go b ih (inr q) = rw q b.1

  pub any_below_law : (n k : ℕ) → k < n → f k ≡ true → any_below n f ≡ true
  any_below_law zero k l e = absurd (not-suc-le-zero l)
  any_below_law (suc n) k l e = go (any_below n f) refl (any_below_law n k) (below_suc k n l)
    where
      go : (b : Bool) → any_below n f ≡ b → (k < n → f k ≡ true → any_below n f ≡ true) → (k < n) ⊎ (k ≡ n) → (b || f n) ≡ true
      go true q ih p = refl
      go false q ih (inl p) = absurd (false≢true (sym q ∙ ih p e))
      go false q ih (inr p) = rw p at e

  pub any_below_at : (n : ℕ) → any_below n f ≡ true → (k : ℕ) × (k < n) × (f k ≡ true)
  any_below_at zero e = absurd (false≢true e)
  any_below_at (suc n) e = go (or-true (any_below n f) (f n) e) (any_below_at n)
    where
      go : (any_below n f ≡ true) ⊎ (f n ≡ true) → (any_below n f ≡ true → (k : ℕ) × (k < n) × (f k ≡ true))
          → (k : ℕ) × (k < suc n) × (f k ≡ true)
      go (inl p) ih = let r = ih p in (r.0, omega arith, r.2)
      go (inr p) ih = (n, omega arith, p)

-- k is the lowest number below n that passes, or n if none does
pub record Lowest (n : ℕ) (f : ℕ → Bool) (k : ℕ) : Type 0 where
  pub within : k ≤ n
  pub passes : k < n → f k ≡ true
  pub first : (j : ℕ) → j < k → f j ≡ false

module _ (f : ℕ → Bool) where
  lowest-last : (n : ℕ) → Lowest n f n → (b : Bool) → f n ≡ b → Lowest (suc n) f (cond b n (suc n))
  lowest-last n r true q = record { within = omega arith; passes = λ l. q; first = r.first }
  lowest-last n r false q = record { within = omega arith; passes = λ l. absurd (omega arith); first = λ j l. go j (below_suc j n l) }
    where
      go : (j : ℕ) → (j < n) ⊎ (j ≡ n) → f j ≡ false
      go j (inl l) = r.first j l
      go j (inr e) = rw e q

  pub lowest_below_law : (n : ℕ) → Lowest n f (lowest_below n f)
  lowest_below_law zero = record { within = omega arith; passes = λ l. absurd (omega arith); first = λ j l. absurd (omega arith) }
  lowest_below_law (suc n) = go (lowest_below n f) (lowest_below_law n) (ltb (lowest_below n f) n) refl
    where
      go : (k : ℕ) → Lowest n f k → (b : Bool) → ltb k n ≡ b → Lowest (suc n) f (cond b k (cond (f n) n (suc n)))
      go k r true q = record { within = omega arith; passes = λ l. r.passes (ltb-true k n q); first = r.first }
      go k r false q =
          let e : k ≡ n = omega (arith, r.within, ltb-false k n q) in
          lowest-last n (rw e at r) (f n) refl

  -- a number that passes is not below the lowest
  pub lowest-below_le : (n k : ℕ) → k < n → f k ≡ true → lowest_below n f ≤ k
  lowest-below_le n k l e = go (dec_lt k (lowest_below n f))
    where
      go : Dec (k < lowest_below n f) → lowest_below n f ≤ k
      go (yes p) = absurd (true≢false (sym e ∙ (lowest_below_law n).first k p))
      go (no p) = omega arith

-- the greatest of the first n values of f
module _ (f : ℕ → ℕ) where
  abbrev pub greatest_below : ℕ → ℕ
  greatest_below n = fold_below n 0 (λ k most. max most (f k))

  pub greatest_below_law : (n k : ℕ) → k < n → f k ≤ greatest_below n
  greatest_below_law zero k l = absurd (not-suc-le-zero l)
  greatest_below_law (suc n) k l = go (greatest_below_law n k) (below_suc k n l)
    where
      go : (k < n → f k ≤ greatest_below n) → (k < n) ⊎ (k ≡ n) → f k ≤ greatest_below (suc n)
      go ih (inl p) = omega (arith, ih p)
      go ih (inr e) = rw e (omega arith)

  pub greatest-below-least : (n most : ℕ) → ((k : ℕ) → k < n → f k ≤ most) → greatest_below n ≤ most
  greatest-below-least zero most h = omega arith
  greatest-below-least (suc n) most h = omega (arith, greatest-below-least n most (λ k l. h k (omega arith)), h n (omega arith))

module _ {A : Type 0} (f : ℕ → A) where
  pub length-list-below : (n : ℕ) → length (list_below n f) ≡ n
  length-list-below zero = refl
  length-list-below (suc n) = length-append (list_below n f) (f n ∷ []) ∙ omega (arith, length-list-below n)

  pub get_or-list-below : (n k : ℕ) (d : A) → k < n → get_or (list_below n f) k d ≡ f k
  get_or-list-below zero k d l = absurd (not-suc-le-zero l)
  get_or-list-below (suc n) k d l = go (get_or-list-below n k d) (below_suc k n l)
    where
      go : (k < n → get_or (list_below n f) k d ≡ f k) → (k < n) ⊎ (k ≡ n) → get_or (list_below n f ++ (f n ∷ [])) k d ≡ f k
      go ih (inl p) = get_or-append (list_below n f) (f n ∷ []) d k (omega (arith, length-list-below n)) ∙ ih p
      go ih (inr e) = get_or_at (list_below n f) (f n) [] d k (length-list-below n ∙ sym e) ∙ ap f (sym e)

pub same-list-refl : (xs : List ℕ) → same_list xs xs ≡ true
same-list-refl [] = refl
same-list-refl (x ∷ xs) = rw (eq-eqb x x refl) (same-list-refl xs)

pub same-list-true : (xs ys : List ℕ) → same_list xs ys ≡ true → xs ≡ ys
same-list-true [] [] e = refl
same-list-true [] (y ∷ ys) e = absurd (false≢true e)
same-list-true (x ∷ xs) [] e = absurd (false≢true e)
same-list-true (x ∷ xs) (y ∷ ys) e =
    let both = and-true (eqb x y) (same_list xs ys) e in
    let head : x ≡ y = eqb-true x y both.0 in
    let tail : xs ≡ ys = same-list-true xs ys both.1 in
    cc

-- the test of lists decides whether they are equal
module _ (xs ys : List ℕ) where
  pub same-list-yes : xs ≡ ys → true ≡ same_list xs ys
  same-list-yes e = rw e (sym (same-list-refl ys))

  pub same-list_no : (xs ≡ ys → ⊥) → false ≡ same_list xs ys
  same-list_no n = go (same_list xs ys) refl
    where
      go : (b : Bool) → same_list xs ys ≡ b → false ≡ b
      go true e = absurd (n (same-list-true xs ys e))
      go false e = refl

one_on_suc : (p k : ℕ) → suc_positive p ≡ suc k → (j : ℕ) × (p ≡ suc j) × (k ≡ suc j)
one_on_suc zero k e = absurd (omega arith)
one_on_suc (suc p) k e = (p, refl, omega arith)

one_on_zero : (p : ℕ) → suc_positive p ≡ 0 → p ≡ 0
one_on_zero zero e = refl
one_on_zero (suc p) e = absurd (omega arith)

-- the place of the first that passes: it is one that passes, the ones before do not, and 0 says that none does
module _ {A : Type 0} (f : A → Bool) where
  -- a list that grows at its end keeps the place
  pub place_append : (xs ys : List A) (k : ℕ) → place_of f xs ≡ suc k → place_of f (xs ++ ys) ≡ suc k
  place_append [] ys k e = absurd (omega arith)
  place_append (x ∷ xs) ys k e = go (f x) e (place_append xs ys)
    where
      go : (b : Bool) → cond b 1 (suc_positive (place_of f xs)) ≡ suc k → ((k : ℕ) → place_of f xs ≡ suc k → place_of f (xs ++ ys) ≡ suc k)
          → cond b 1 (suc_positive (place_of f (xs ++ ys))) ≡ suc k
      go true e ih = e
      go false e ih = let r = one_on_suc (place_of f xs) k e in rw (ih r.0 r.1) (ap suc (sym r.2))

  -- one that does not pass at its end changes nothing
  pub place_other : (xs : List A) (x : A) → f x ≡ false → place_of f (xs ++ (x ∷ [])) ≡ place_of f xs
  place_other [] x e = rw e
  place_other (y ∷ xs) x e = ap (λ (n : ℕ). cond (f y) 1 (suc_positive n)) (place_other xs x e)

  -- and the first that passes may come last
  pub place_end : (xs : List A) (x : A) → place_of f xs ≡ 0 → f x ≡ true → place_of f (xs ++ (x ∷ [])) ≡ suc (length xs)
  place_end [] x e q = rw q
  place_end (y ∷ xs) x e q = go (f y) e (λ p. place_end xs x p q)
    where
      go : (b : Bool) → cond b 1 (suc_positive (place_of f xs)) ≡ 0 → (place_of f xs ≡ 0 → place_of f (xs ++ (x ∷ [])) ≡ suc (length xs))
          → cond b 1 (suc_positive (place_of f (xs ++ (x ∷ [])))) ≡ suc (suc (length xs))
      go true e ih = absurd (omega arith)
      go false e ih = rw (ih (one_on_zero (place_of f xs) e))

  module _ (d : A) where
    pub place-hit : (xs : List A) (k : ℕ) → place_of f xs ≡ suc k → (k < length xs) × (f (get_or xs k d) ≡ true)
    place-hit [] k e = absurd (omega arith)
    place-hit (x ∷ xs) k e = go k (f x) refl e (place-hit xs)
      where
        go : (k : ℕ) (b : Bool) → f x ≡ b → cond b 1 (suc_positive (place_of f xs)) ≡ suc k
            → ((k : ℕ) → place_of f xs ≡ suc k → (k < length xs) × (f (get_or xs k d) ≡ true)) → (k < suc (length xs)) × (f (get_or (x ∷ xs) k d) ≡ true)
        go zero true q e ih = (omega arith, q)
        go (suc k) true q e ih = absurd (omega arith)
        go zero false q e ih = let r = one_on_suc (place_of f xs) zero e in absurd (omega arith)
        go (suc k) false q e ih =
            let r = one_on_suc (place_of f xs) (suc k) e in
            let hit = ih k (r.1 ∙ sym r.2) in
            (omega arith, hit.1)

    pub place_none : (xs : List A) → place_of f xs ≡ 0 → (k : ℕ) → k < length xs → f (get_or xs k d) ≡ false
    place_none [] e k l = absurd (not-suc-le-zero l)
    place_none (x ∷ xs) e k l = go k l (f x) refl e (place_none xs)
      where
        go : (k : ℕ) → k < suc (length xs) → (b : Bool) → f x ≡ b → cond b 1 (suc_positive (place_of f xs)) ≡ 0
            → (place_of f xs ≡ 0 → (k : ℕ) → k < length xs → f (get_or xs k d) ≡ false) → f (get_or (x ∷ xs) k d) ≡ false
        go k l true q e ih = absurd (omega arith)
        go zero l false q e ih = q
        go (suc k) l false q e ih = ih (one_on_zero (place_of f xs) e) k (omega arith)

    pub place-first : (xs : List A) (k : ℕ) → place_of f xs ≡ suc k → (j : ℕ) → j < k → f (get_or xs j d) ≡ false
    place-first [] k e j l = absurd (omega arith)
    place-first (x ∷ xs) k e j l = go j l (f x) refl e (place-first xs)
      where
        go : (j : ℕ) → j < k → (b : Bool) → f x ≡ b → cond b 1 (suc_positive (place_of f xs)) ≡ suc k
            → ((k : ℕ) → place_of f xs ≡ suc k → (j : ℕ) → j < k → f (get_or xs j d) ≡ false) → f (get_or (x ∷ xs) j d) ≡ false
        go j l true q e ih = absurd (omega arith)
        go zero l false q e ih = q
        go (suc j) l false q e ih = let r = one_on_suc (place_of f xs) k e in ih r.0 r.1 j (omega arith)

    -- where one passes, the place is its place or an earlier one
    pub place_found : (xs : List A) (k : ℕ) → k < length xs → f (get_or xs k d) ≡ true → (j : ℕ) × (j ≤ k) × (place_of f xs ≡ suc j)
    place_found xs k l e = go (place_of f xs) refl
      where
        go : (p : ℕ) → place_of f xs ≡ p → (j : ℕ) × (j ≤ k) × (p ≡ suc j)
        go zero q = absurd (true≢false (sym e ∙ place_none xs q k l))
        go (suc j) q = (j, within (dec_lt k j), refl)
          where
            within : Dec (k < j) → j ≤ k
            within (yes p) = absurd (true≢false (sym e ∙ place-first xs j q k p))
            within (no p) = omega arith

    pub place_at : (xs : List A) (k : ℕ) → k < length xs → f (get_or xs k d) ≡ true
        → ((j : ℕ) → j < k → f (get_or xs j d) ≡ false) → place_of f xs ≡ suc k
    place_at xs k l e before = go (place_found xs k l e)
      where
        go : (j : ℕ) × (j ≤ k) × (place_of f xs ≡ suc j) → place_of f xs ≡ suc k
        go r = r.2 ∙ ap suc (same (dec_lt r.0 k))
          where
            same : Dec (r.0 < k) → r.0 ≡ k
            same (yes p) = absurd (true≢false (sym (place-hit xs r.0 r.2).1 ∙ before r.0 p))
            same (no p) = omega (arith, r.1)

one_le : (a b : Bool) → (a ≡ true → b ≡ true) → one a ≤ one b
one_le true b h = rw (h refl) (omega arith)
one_le false b h = omega arith

pub count-below_le : (n : ℕ) (f : ℕ → Bool) → count_below n f ≤ n
count-below_le zero f = omega arith
count-below_le (suc n) f = omega (arith, count-below_le n f, one_le (f n) true (λ e. refl))

pub count-below-all : (n : ℕ) (f : ℕ → Bool) → ((k : ℕ) → k < n → f k ≡ true) → count_below n f ≡ n
count-below-all zero f h = refl
count-below-all (suc n) f h = omega (arith, count-below-all n f (λ k l. h k (omega arith)), ap one (h n (omega arith)))

module _ (f g : ℕ → Bool) where
  pub count-below_mono : (n : ℕ) → ((k : ℕ) → k < n → f k ≡ true → g k ≡ true) → count_below n f ≤ count_below n g
  count-below_mono zero h = omega arith
  count-below_mono (suc n) h = omega (arith, count-below_mono n (λ k l. h k (omega arith)), one_le (f n) (g n) (h n (omega arith)))

  -- one more passes g than f
  pub count-below_grows : (n : ℕ) → ((k : ℕ) → k < n → f k ≡ true → g k ≡ true)
      → (k : ℕ) → k < n → f k ≡ false → g k ≡ true → count_below n f < count_below n g
  count-below_grows zero h k l p q = absurd (not-suc-le-zero l)
  count-below_grows (suc n) h k l p q = go (λ b. count-below_grows n (λ k l. h k (omega arith)) k b p q) (below_suc k n l)
    where
      go : (k < n → count_below n f < count_below n g) → (k < n) ⊎ (k ≡ n) → count_below (suc n) f < count_below (suc n) g
      go ih (inl b) = omega (arith, ih b, one_le (f n) (g n) (h n (omega arith)))
      go ih (inr e) =
          let last-f : one (f n) ≡ 0 = ap one (rw e at p) in
          let last-g : one (g n) ≡ 1 = ap one (rw e at q) in
          omega (arith, count-below_mono n (λ k l. h k (omega arith)))

  -- as many pass both, so the same do
  pub count-below-same : (n : ℕ) → ((k : ℕ) → k < n → f k ≡ true → g k ≡ true)
      → count_below n g ≤ count_below n f → (k : ℕ) → k < n → g k ≡ true → f k ≡ true
  count-below-same n h c k l q = go (f k) refl
    where
      go : (b : Bool) → f k ≡ b → b ≡ true
      go true p = refl
      go false p = absurd (omega (arith, count-below_grows n h k l p q))

pub count-below-some : (n : ℕ) (f : ℕ → Bool) (k : ℕ) → k < n → f k ≡ true → 1 ≤ count_below n f
count-below-some n f k l e = omega (arith, count-below_grows (λ j. false) f n (λ j b p. absurd (false≢true p)) k l refl e)

-- distinct numbers below n are at most n (the pigeonhole principle)
module _ (n : ℕ) (f : ℕ → ℕ) where
  abbrev among : ℕ → ℕ → Bool
  among k s = any_below k (λ i. eqb (f i) s)

  among-count : (k : ℕ) → ((i : ℕ) → i < k → f i < n) → ((i j : ℕ) → i < j → j < k → f i ≡ f j → ⊥) → k ≤ count_below n (among k)
  among-count zero low apart = omega arith
  among-count (suc k) low apart =
      let before = among-count k (λ i l. low i (omega arith)) (λ i j l b. apart i j l (omega arith)) in
      omega (arith, count-below_grows (among k) (among (suc k)) n stays (f k) (low k (omega arith)) (new (among k (f k)) refl) (last (among k (f k))))
    where
      stays : (s : ℕ) → s < n → among k s ≡ true → among (suc k) s ≡ true
      stays s l e = rw e

      last : (b : Bool) → (b || eqb (f k) (f k)) ≡ true
      last true = refl
      last false = eq-eqb (f k) (f k) refl

      new : (b : Bool) → among k (f k) ≡ b → b ≡ false
      new true e = let hit = any_below_at (λ i. eqb (f i) (f k)) k e in absurd (apart hit.0 k hit.1 (omega arith) (eqb-true (f hit.0) (f k) hit.2))
      new false e = refl

  pub distinct-below : (k : ℕ) → ((i : ℕ) → i < k → f i < n) → ((i j : ℕ) → i < j → j < k → f i ≡ f j → ⊥) → k ≤ n
  distinct-below k low apart = omega (arith, among-count k low apart, count-below_le n (among k))
