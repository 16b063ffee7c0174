-- A buffer with something written to its front: what is read from the front, what stays after it, and one number more. And how many numbers were read.
use mathlib.Core.Path.{◌≡◌, sym, ap, ◌∙◌}
use mathlib.Core.List.{List, [], ◌∷◌, ◌++◌, append_assoc}
use Prim.Native.Nat.{ℕ, suc, ◌+◌, ◌-◌, ◌≤◌, ◌<◌}
use native.Mathlib.Numerals.{add-one}
use native.Mathlib.Omega.{arith}
use lib.ListN.{length, get_or, take, drop, set, length-append, length-take, length-drop, take-append-drop}
use lib.Seq.{length-take-le, drop-cons, set_at, take_at, drop-drop, drop-append-add}
use Rattle.definitions.specs.Answer.{written}

module _ (front buffer : List ℕ) where
  pub take-written : (n : ℕ) → length front ≡ n → take n (written front buffer) ≡ front
  take-written n e = take_at front (drop (length front) buffer) n e

  -- the same of the buffer that a call left
  pub written_read : (n : ℕ) (after : List ℕ) → n ≡ length front → after ≡ written front buffer → take n after ≡ front
  written_read n after en ea = ap (take n) ea ∙ take-written n (sym en)

  pub drop-written : (n : ℕ) → length front ≤ n → drop n (written front buffer) ≡ drop n buffer
  drop-written n h =
      let e : length front + (n - length front) ≡ n = omega arith in
      ap (λ (k : ℕ). drop k (written front buffer)) (sym e)
      ∙ drop-append-add front (drop (length front) buffer) (n - length front)
      ∙ drop-drop (n - length front) (length front) buffer
      ∙ ap (λ (k : ℕ). drop k buffer) e

  pub length-written : length front ≤ length buffer → length (written front buffer) ≡ length buffer
  length-written h = rw (length-append, length-drop) (omega arith)

  -- one number more
  pub written_next : (n x : ℕ) → length front ≡ n → n < length buffer → set (written front buffer) n x ≡ written (front ++ (x ∷ [])) buffer
  written_next n x e h =
      let here : drop (length front) buffer ≡ get_or buffer n 0 ∷ drop (suc n) buffer = rw e (drop-cons buffer n 0 h) in
      let long : length (front ++ (x ∷ [])) ≡ suc n = rw (length-append, e, add-one) in
      rw (here, set_at front (get_or buffer n 0) (drop (suc n) buffer) x n e, long, append_assoc)

-- if n numbers are read and that is not all of the buffer, there are n
pub length_taken : (n : ℕ) (buffer : List ℕ) → length (take n buffer) < length buffer → length (take n buffer) ≡ n
length_taken n buffer short = omega (arith, length-take n buffer)

pub written-take : (n : ℕ) (buffer : List ℕ) → n ≤ length buffer → written (take n buffer) buffer ≡ buffer
written-take n buffer h = rw (length-take-le n buffer h) (take-append-drop n buffer)

pub written_again : (old new buffer : List ℕ) → length old ≤ length new → written new (written old buffer) ≡ written new buffer
written_again old new buffer h = ap (λ (rest : List ℕ). new ++ rest) (drop-written old buffer (length new) h)
