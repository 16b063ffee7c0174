-- The laws of the order of histories: it is total, and so a property has at most one earliest history; codes added at the end keep it.
use mathlib.Core.Path.{◌≡◌, refl, ap, sym, ◌∙◌}
use mathlib.Core.Logic.{◌⊎◌, inl, inr}
use mathlib.Core.List.{[], ◌∷◌, ◌++◌, append-nil}
use Prim.Native.Nat.{ℕ, ◌≤◌, ◌<◌}
use native.Mathlib.Nat.{lt_irrefl}
use native.Mathlib.Omega.{arith}
use native.Mathlib.Decide.{dec_lt, ℕ_discrete}
use lib.ListN.{length, length-append}
use Rattle.automaton.specs.History.{History, Smaller, Earlier, NotLater, Earliest}

-- of two numbers one is less than the other, or they are equal
pub tri : (m n : ℕ) → (m < n) ⊎ ((m ≡ n) ⊎ (n < m))
tri m n = go (dec_lt m n) (dec_lt n m)
  where
    go : Dec (m < n) → Dec (n < m) → (m < n) ⊎ ((m ≡ n) ⊎ (n < m))
    go (yes p) q = inl p
    go (no p) (yes q) = inr (inr q)
    go (no p) (no q) = inr (inl (omega arith))

smaller_irrefl : (h : History) → Smaller h h → ⊥
smaller_irrefl [] p = p
smaller_irrefl (c ∷ h) (inl p) = lt_irrefl c p
smaller_irrefl (c ∷ h) (inr p) = smaller_irrefl h p.1

smaller_trans : (h k l : History) → Smaller h k → Smaller k l → Smaller h l
smaller_trans [] k l p q = absurd p
smaller_trans (c ∷ h) [] l p q = absurd p
smaller_trans (c ∷ h) (d ∷ k) [] p q = absurd q
smaller_trans (c ∷ h) (d ∷ k) (e ∷ l) (inl p) (inl q) = inl (omega arith)
smaller_trans (c ∷ h) (d ∷ k) (e ∷ l) (inl p) (inr q) = inl (omega arith)
smaller_trans (c ∷ h) (d ∷ k) (e ∷ l) (inr p) (inl q) = inl (omega arith)
smaller_trans (c ∷ h) (d ∷ k) (e ∷ l) (inr p) (inr q) = inr (p.0 ∙ q.0, smaller_trans h k l p.1 q.1)

smaller_append : (h k y z : History) → Smaller h k → Smaller (h ++ y) (k ++ z)
smaller_append [] k y z p = absurd p
smaller_append (c ∷ h) [] y z p = absurd p
smaller_append (c ∷ h) (d ∷ k) y z (inl p) = inl p
smaller_append (c ∷ h) (d ∷ k) y z (inr p) = inr (p.0, smaller_append h k y z p.1)

smaller_prefix : (h y z : History) → Smaller y z → Smaller (h ++ y) (h ++ z)
smaller_prefix [] y z p = p
smaller_prefix (c ∷ h) y z p = inr (refl, smaller_prefix h y z p)

smaller_tri : (h k : History) → length h ≡ length k → Smaller h k ⊎ ((h ≡ k) ⊎ Smaller k h)
smaller_tri [] [] e = inr (inl refl)
smaller_tri [] (d ∷ k) e = absurd (omega arith)
smaller_tri (c ∷ h) [] e = absurd (omega arith)
smaller_tri (c ∷ h) (d ∷ k) e = go (tri c d) (smaller_tri h k (omega arith))
  where
    go : (c < d) ⊎ ((c ≡ d) ⊎ (d < c)) → Smaller h k ⊎ ((h ≡ k) ⊎ Smaller k h)
        → Smaller (c ∷ h) (d ∷ k) ⊎ ((c ∷ h ≡ d ∷ k) ⊎ Smaller (d ∷ k) (c ∷ h))
    go (inl p) r = inl (inl p)
    go (inr (inr p)) r = inr (inr (inl p))
    go (inr (inl p)) (inl q) = inl (inr (p, q))
    go (inr (inl p)) (inr (inl q)) = inr (inl (cc))
    go (inr (inl p)) (inr (inr q)) = inr (inr (inr (sym p, q)))

pub earlier_irrefl : (h : History) → Earlier h h → ⊥
earlier_irrefl h (inl p) = lt_irrefl (length h) p
earlier_irrefl h (inr p) = smaller_irrefl h p.1

pub earlier_trans : (h k l : History) → Earlier h k → Earlier k l → Earlier h l
earlier_trans h k l (inl p) (inl q) = inl (omega arith)
earlier_trans h k l (inl p) (inr q) = inl (omega arith)
earlier_trans h k l (inr p) (inl q) = inl (omega arith)
earlier_trans h k l (inr p) (inr q) = inr (p.0 ∙ q.0, smaller_trans h k l p.1 q.1)

pub earlier_tri : (h k : History) → Earlier h k ⊎ ((h ≡ k) ⊎ Earlier k h)
earlier_tri h k = go (tri (length h) (length k))
  where
    same : length h ≡ length k → Smaller h k ⊎ ((h ≡ k) ⊎ Smaller k h) → Earlier h k ⊎ ((h ≡ k) ⊎ Earlier k h)
    same e (inl q) = inl (inr (e, q))
    same e (inr (inl q)) = inr (inl q)
    same e (inr (inr q)) = inr (inr (inr (sym e, q)))

    go : (length h < length k) ⊎ ((length h ≡ length k) ⊎ (length k < length h)) → Earlier h k ⊎ ((h ≡ k) ⊎ Earlier k h)
    go (inl p) = inl (inl p)
    go (inr (inl e)) = same e (smaller_tri h k e)
    go (inr (inr p)) = inr (inr (inl p))

-- where histories come in order, an earlier one has a smaller index
pub earlier_index : (f : ℕ → History) (i j : ℕ) → (j < i → Earlier (f j) (f i)) → Earlier (f i) (f j) → i < j
earlier_index f i j sorted l = go (tri i j)
  where
    go : (i < j) ⊎ ((i ≡ j) ⊎ (j < i)) → i < j
    go (inl p) = p
    go (inr (inl e)) = absurd (earlier_irrefl (f j) (rw e at l))
    go (inr (inr p)) = absurd (earlier_irrefl (f i) (earlier_trans (f i) (f j) (f i) l (sorted p)))

pub not-later-refl : (h : History) → NotLater h h
not-later-refl h = inr refl

pub not-later_earlier : (h k l : History) → NotLater h k → Earlier k l → Earlier h l
not-later_earlier h k l (inl p) q = earlier_trans h k l p q
not-later_earlier h k l (inr p) q = rw p q

pub earlier_not-later : (h k l : History) → Earlier h k → NotLater k l → Earlier h l
earlier_not-later h k l p (inl q) = earlier_trans h k l p q
earlier_not-later h k l p (inr q) = rw q at p

pub not-later_trans : (h k l : History) → NotLater h k → NotLater k l → NotLater h l
not-later_trans h k l (inl p) q = inl (earlier_not-later h k l p q)
not-later_trans h k l (inr p) q = rw p q

pub not_earlier : (h k : History) → NotLater h k → Earlier k h → ⊥
not_earlier h k p q = earlier_irrefl h (not-later_earlier h k h p q)

-- what is earlier stays so under ends of one length
pub earlier_append : (h k y z : History) → length y ≡ length z → Earlier h k → Earlier (h ++ y) (k ++ z)
earlier_append h k y z e (inl p) = inl (simp length-append (omega arith))
earlier_append h k y z e (inr p) = inr (simp length-append (omega arith), smaller_append h k y z p.1)

pub earlier_prefix : (h y z : History) → Earlier y z → Earlier (h ++ y) (h ++ z)
earlier_prefix h y z (inl p) = inl (simp length-append (omega arith))
earlier_prefix h y z (inr p) = inr (simp length-append (omega arith), smaller_prefix h y z p.1)

pub earlier_code : (h : History) (c d : ℕ) → c < d → Earlier (h ++ (c ∷ [])) (h ++ (d ∷ []))
earlier_code h c d p = earlier_prefix h (c ∷ []) (d ∷ []) (inr (refl, inl p))

pub not-later-code : (h : History) (c d : ℕ) → c ≤ d → NotLater (h ++ (c ∷ [])) (h ++ (d ∷ []))
not-later-code h c d p = go (ℕ_discrete c d)
  where
    go : Dec (c ≡ d) → NotLater (h ++ (c ∷ [])) (h ++ (d ∷ []))
    go (yes e) = inr (ap (λ (x : ℕ). h ++ (x ∷ [])) e)
    go (no n) = inl (earlier_code h c d (omega arith))

pub not-later_append : (h k z : History) → NotLater h k → NotLater (h ++ z) (k ++ z)
not-later_append h k z (inl p) = inl (earlier_append h k z z refl p)
not-later_append h k z (inr p) = inr (ap (λ (l : History). l ++ z) p)

pub earlier_longer : (h : History) (c : ℕ) (z : History) → Earlier h (h ++ (c ∷ z))
earlier_longer h c z = inl (simp length-append (omega arith))

pub not-later_longer : (h z : History) → NotLater h (h ++ z)
not-later_longer h [] = inr (sym (append-nil h))
not-later_longer h (c ∷ z) = inl (earlier_longer h c z)

-- a property has at most one earliest history
pub earliest_unique : (P : History → Type 0) (h k : History) → Earliest P h → Earliest P k → h ≡ k
earliest_unique P h k p q = go (p.1 k q.0)
  where
    go : NotLater h k → h ≡ k
    go (inl l) = absurd (not_earlier k h (q.1 h p.0) l)
    go (inr e) = e
