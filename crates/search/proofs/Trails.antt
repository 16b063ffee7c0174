-- Histories in a trail of two bytes a place: their length is counted, and they are written from their end, by going from each place to its parent.
use mathlib.Core.Path.{◌≡◌, refl, ap, sym, ◌∙◌}
use mathlib.Core.List.{List, [], ◌∷◌, ◌++◌, append_assoc}
use Prim.Native.Nat.{ℕ, zero, suc, ◌+◌, ◌-◌, ◌*◌, ◌≤◌, ◌<◌}
use native.Mathlib.Omega.{arith}
use lib.ListN.{length, set, drop, length-append, length-set}
use lib.Seq.{drop-cons, drop-set-lt, get_or-set_same, get_or-set_other}
use Rattle.automaton.specs.History.{History}
use Rattle.automaton.specs.Parents.{EarlierParents}
use Rattle.automaton.proofs.Parents.{Stored, trail-start, trail-step, trail-length}
use Rattle.definitions.specs.Answer.{written}
use Rattle.search.specs.Trail.{first_at, second_at, placed, history_at}

-- ---- two bytes are stored
module _ (l : List ℕ) (m x y : ℕ) (room : 2 * m + 1 < length l) where
  pub placed_first : Stored m x (first_at l) (first_at (placed l m x y))
  placed_first = record {
    same = λ k b. get_or-set_other (set l (2 * m) x) (2 * m + 1) (2 * k) y 0 (omega arith) ∙ get_or-set_other l (2 * m) (2 * k) x 0 (omega arith);
    last = get_or-set_other (set l (2 * m) x) (2 * m + 1) (2 * m) y 0 (omega arith) ∙ get_or-set_same l (2 * m) x 0 (omega arith);
  }

  pub placed-second : Stored m y (second_at l) (second_at (placed l m x y))
  placed-second = record {
    same = λ k b. get_or-set_other (set l (2 * m) x) (2 * m + 1) (2 * k + 1) y 0 (omega arith) ∙ get_or-set_other l (2 * m) (2 * k + 1) x 0 (omega arith);
    last = get_or-set_same (set l (2 * m) x) (2 * m + 1) y 0 (rw length-set room);
  }

pub placed-length : (l : List ℕ) (m x y : ℕ) → length (placed l m x y) ≡ length l
placed-length l m x y = simp length-set

-- ---- histories are counted and written
-- n codes lead from place k to place i
pub record Counted (trail : List ℕ) (i k n : ℕ) : Type 0 where
  pub low : k ≤ i
  pub count : n + length (history_at trail k) ≡ length (history_at trail i)

-- of the codes that lead to place i those from the j-th on are written, and those that lead to place k are to come
pub record Writing (trail : List ℕ) (i : ℕ) (before : List ℕ) (k j : ℕ) (buffer : List ℕ) : Type 0 where
  pub low : k ≤ i
  pub left : j ≡ length (history_at trail k)
  pub long : length buffer ≡ length before
  pub goal : history_at trail k ++ drop j buffer ≡ written (history_at trail i) before

drop-set : (l : List ℕ) (j x : ℕ) → j < length l → drop j (set l j x) ≡ x ∷ drop (suc j) l
drop-set l j x b =
    drop-cons (set l j x) j 0 (rw length-set b) ∙ rw (get_or-set_same l j x 0 b, drop-set-lt (suc j) l j x (omega arith))

module _ (trail : List ℕ) (i : ℕ) (falls : EarlierParents (suc i) (first_at trail)) where
  pub history-empty : (k : ℕ) → k ≡ 0 → history_at trail k ≡ []
  history-empty k e = rw e (trail-start (first_at trail) (second_at trail))

  history-step : (k : ℕ) → 0 < k → k ≤ i → history_at trail k ≡ history_at trail (first_at trail k) ++ (second_at trail k ∷ [])
  history-step zero p l = absurd (omega arith)
  history-step (suc k) p l = trail-step (suc i) (first_at trail) (second_at trail) falls k (omega arith)

  -- a parent's place is lower
  pub parent-low : (k p : ℕ) → p ≡ first_at trail k → 0 < k → k ≤ i → p < k
  parent-low zero p e b l = absurd (omega arith)
  parent-low (suc k) p e b l = omega (arith, falls k (omega arith))

  pub history-short : length (history_at trail i) ≤ i
  history-short = trail-length (suc i) (first_at trail) (second_at trail) falls i (omega arith)

  pub step-length : (k : ℕ) → 0 < k → k ≤ i → length (history_at trail k) ≡ length (history_at trail (first_at trail k)) + 1
  step-length k p l = ap length (history-step k p l) ∙ length-append (history_at trail (first_at trail k)) (second_at trail k ∷ [])

  -- ---- counting
  pub counted_begun : Counted trail i i 0
  counted_begun = record { low = omega arith; count = omega arith }

  module _ (k n : ℕ) (S : Counted trail i k n) where
    pub counted-few : n ≤ i
    counted-few = omega (arith, S.count, history-short)

    pub counted-turn : 0 < k → (p : ℕ) → p ≡ first_at trail k → Counted trail i p (n + 1)
    counted-turn b p e = rw e (record {
      low = omega (arith, S.low, parent-low k (first_at trail k) refl b S.low);
      count = omega (arith, S.count, step-length k b S.low);
    })

    pub counted-done : k ≤ 0 → n ≡ length (history_at trail i)
    counted-done b = omega (arith, S.count, ap length (history-empty k (omega arith)))

  -- ---- writing
  module _ (before : List ℕ) where
    pub writing-begun : (n : ℕ) → n ≡ length (history_at trail i) → Writing trail i before i n before
    writing-begun n e = record { low = omega arith; left = e; long = refl; goal = rw e }

    module _ (k j : ℕ) (buffer : List ℕ) (S : Writing trail i before k j buffer) where
      pub writing-some : 0 < k → 1 ≤ j
      writing-some b = omega (arith, S.left, step-length k b S.low)

      pub writing-few : i ≤ length before → j ≤ length buffer
      writing-few b = omega (arith, S.left, S.long, S.low, trail-length (suc i) (first_at trail) (second_at trail) falls k (omega (arith, S.low)))

      pub writing-turn : 0 < k → i ≤ length before → (p : ℕ) → p ≡ first_at trail k → Writing trail i before p (j - 1) (set buffer (j - 1) (second_at trail k))
      writing-turn b room p e =
          let some = writing-some b in
          let few = writing-few room in
          let here : suc (j - 1) ≡ j = omega arith in
          let code = second_at trail k in
          let parent = first_at trail k in
          rw e (record {
            low = omega (arith, S.low, parent-low k parent refl b S.low);
            left = omega (arith, S.left, step-length k b S.low);
            long = length-set buffer (j - 1) code ∙ S.long;
            goal =
                ap (λ (l : List ℕ). history_at trail parent ++ l) (drop-set buffer (j - 1) code (omega arith) ∙ rw here)
                ∙ (sym (append_assoc (history_at trail parent) (code ∷ []) (drop j buffer))
                ∙ (ap (λ (h : History). h ++ drop j buffer) (sym (history-step k b S.low)) ∙ S.goal));
          })

      pub writing-done : k ≤ 0 → buffer ≡ written (history_at trail i) before
      writing-done b =
          let none = history-empty k (omega arith) in
          let front : j ≡ 0 = S.left ∙ ap length none in
          ap (λ (n : ℕ). drop n buffer) (sym front) ∙ (ap (λ (h : History). h ++ drop j buffer) (sym none) ∙ S.goal)
