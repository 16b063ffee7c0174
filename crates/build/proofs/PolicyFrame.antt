-- The bytes of a policy's frame.
use mathlib.Core.Path.{◌≡◌, refl, sym, ap, ◌∙◌}
use mathlib.Core.List.{List, [], ◌∷◌, ◌++◌}
use Prim.Native.Nat.{ℕ, zero, suc, min, ◌+◌, ◌-◌, ◌<◌, ◌≤◌}
use native.Mathlib.Omega.{arith}
use native.Mathlib.Decide.{dec_lt}
use lib.ListN.{length, get_or, take, drop, get_or-append, length-append, length-take, length-drop}
use lib.Seq.{get_or-append_right, get_or-take, get_or-drop, ext_get_or, take_at, drop_at}
use borrow.Author.Tests.{lt-ltb, le-ltb}
use borrow.Rule.Slice.PartMut.{put_mid}
use Rattle.automaton.proofs.Below.{length-list-below, get_or-list-below}
use Rattle.definitions.specs.Bytes.{byte}
use Rattle.definitions.specs.Policy.{fields, present_count, frame}

module _ (p : List ℕ) where
  pub frame-front : (i : ℕ) → i < 2 → byte p (5 + i) ≡ byte (frame p) i
  frame-front zero l = refl
  frame-front (suc zero) l = refl
  frame-front (suc (suc i)) l = absurd (omega arith)

  counts : (i : ℕ) → 2 ≤ i → i < 6 → byte (frame p) i ≡ present_count p (i - 2)
  counts zero l b = absurd (omega arith)
  counts (suc zero) l b = absurd (omega arith)
  counts (suc (suc i)) l b =
      let e : suc (suc i) - 2 ≡ i = omega arith in
      rw e (get_or-list-below (present_count p) 4 i 0 (omega arith))

  pub frame-count : (i : ℕ) → 2 ≤ i → i < 6 → i - 2 < fields p → byte p (7 + i) ≡ byte (frame p) i
  frame-count i l b present =
      let e : 7 + i ≡ 9 + (i - 2) = omega arith in
      ap (byte p) e ∙ sym (counts i l b ∙ rw (lt-ltb (i - 2) (fields p) present))

  pub frame_absent : (i : ℕ) → 2 ≤ i → i < 6 → fields p ≤ i - 2 → 0 ≡ byte (frame p) i
  frame_absent i l b absent = sym (counts i l b ∙ rw (le-ltb (i - 2) (fields p) absent))

abbrev absent : List ℕ
absent = 0 ∷ 0 ∷ 0 ∷ 0 ∷ []

drop-absent : (n i : ℕ) → get_or (drop n absent) i 0 ≡ 0
drop-absent n i = get_or-drop n absent i 0 ∙ none (n + i)
  where
    none : (k : ℕ) → get_or absent k 0 ≡ 0
    none zero = refl
    none (suc zero) = refl
    none (suc (suc zero)) = refl
    none (suc (suc (suc zero))) = refl
    none (suc (suc (suc (suc k)))) = refl

-- two bytes, then n counts, and 0 for the others
module _ (p : List ℕ) (long : 9 + fields p ≤ length p) (n : ℕ) (present : n ≡ min (fields p) 4) where
  abbrev front : List ℕ
  front = take 2 (drop 5 p)

  abbrev counts-of : List ℕ
  counts-of = take n (drop 9 p)

  front-length : length front ≡ 2
  front-length = omega (arith, length-take 2 (drop 5 p), length-drop 5 p)

  counts-length : length counts-of ≡ n
  counts-length = omega (arith, length-take n (drop 9 p), length-drop 9 p)

  laid-at : (i : ℕ) → i < 6 → get_or (front ++ (counts-of ++ drop n absent)) i 0 ≡ byte (frame p) i
  laid-at i l = go (dec_lt i 2) (dec_lt (i - 2) n)
    where
      after : 2 ≤ i → get_or (front ++ (counts-of ++ drop n absent)) i 0 ≡ get_or (counts-of ++ drop n absent) (i - 2) 0
      after b = get_or-append_right front (counts-of ++ drop n absent) i 0 (omega (arith, front-length)) ∙ rw front-length refl

      go : Dec (i < 2) → Dec (i - 2 < n) → get_or (front ++ (counts-of ++ drop n absent)) i 0 ≡ byte (frame p) i
      go (yes b) d =
          get_or-append front (counts-of ++ drop n absent) 0 i (omega (arith, front-length))
          ∙ get_or-take 2 (drop 5 p) i 0 b
          ∙ get_or-drop 5 p i 0
          ∙ frame-front p i b
      go (no b) (yes d) =
          let from : 2 ≤ i = omega arith in
          after from
          ∙ get_or-append counts-of (drop n absent) 0 (i - 2) (omega (arith, counts-length))
          ∙ get_or-take n (drop 9 p) (i - 2) 0 d
          ∙ get_or-drop 9 p (i - 2) 0
          ∙ ap (byte p) (omega arith)
          ∙ frame-count p i from l (omega arith)
      go (no b) (no d) =
          let from : 2 ≤ i = omega arith in
          after from
          ∙ get_or-append_right counts-of (drop n absent) (i - 2) 0 (omega (arith, counts-length))
          ∙ drop-absent n (i - 2 - length counts-of)
          ∙ frame_absent p i from l (omega arith)

  pub frame-laid : (k m : ℕ) (first second : List ℕ) → k ≡ n → m ≡ n → first ≡ front → second ≡ take m (drop 9 p)
      → put_mid 2 k (first ++ absent) second ≡ frame p
  frame-laid k m first second ek em ef es = rw (ek, ef, es, em) laid
    where
      long-is : length (front ++ (counts-of ++ drop n absent)) ≡ 6
      long-is = omega (arith, length-append front (counts-of ++ drop n absent), length-append counts-of (drop n absent), length-drop n absent, front-length, counts-length)

      size : length (front ++ (counts-of ++ drop n absent)) ≡ length (frame p)
      size = long-is ∙ ap (λ (k : ℕ). suc (suc k)) (sym (length-list-below (present_count p) 4))

      laid : put_mid 2 n (front ++ absent) counts-of ≡ frame p
      laid =
          rw (take_at front absent 2 front-length, drop_at front absent 2 front-length)
          (ext_get_or 0 (front ++ (counts-of ++ drop n absent)) (frame p) size (λ i b. laid-at i (omega (arith, long-is))))
