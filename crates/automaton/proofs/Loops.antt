-- What a loop that counts up shows, turn by turn: a test that holds at each number below a bound, and a fold over those numbers. And the parts of a slice
-- that such a loop hands on.
use mathlib.Core.Path.{◌≡◌, refl, sym, ap, ◌∙◌}
use mathlib.Core.Bool.{Bool, true, false, false≢true, and-true, and_assoc, ◌&&◌}
use mathlib.Core.List.{List}
use Prim.Native.Nat.{ℕ, zero, suc, ◌+◌, ◌-◌, ◌*◌, ◌<◌, ◌≤◌}
use native.Mathlib.Nat.{mul-le-mul_right, add-zero, add-suc, zero-mul, suc-mul, le_refl}
use native.Mathlib.Numerals.{add-one}
use lib.ListN.{length, take, drop, length-drop}
use lib.Seq.{take_all}
use Rattle.automaton.specs.Below.{all_below, fold_below}
use Rattle.automaton.proofs.Below.{all-below_at}

module _ (f : ℕ → Bool) where
  -- one number more
  pub all_more : (i : ℕ) → all_below i f ≡ true → f i ≡ true → all_below (i + 1) f ≡ true
  all_more i below here = rw (add-one, below) here

  -- the same, where the loop joins the answers
  pub all-next : (i : ℕ) (below here : Bool) → below ≡ all_below i f → here ≡ f i → (below && here) ≡ all_below (i + 1) f
  all-next i below here e h = rw (add-one, e, h)

  -- one failure decides
  pub all-fails : (n i : ℕ) → i < n → f i ≡ false → false ≡ all_below n f
  all-fails n i l fails = go (all_below n f) refl
    where
      go : (b : Bool) → all_below n f ≡ b → false ≡ b
      go true q = absurd (false≢true (sym fails ∙ all-below_at f n q i l))
      go false q = refl

  -- the loop has come to its end
  pub all_done : (n i : ℕ) → i ≡ n → all_below i f ≡ true → true ≡ all_below n f
  all_done n i e below = sym (rw e at below)

-- a test at each place of n rows of w
all_append : (f : ℕ → Bool) (a b : ℕ) → all_below (a + b) f ≡ (all_below a f && all_below b (λ j. f (a + j)))
all_append f a zero = rw add-zero (sym (and-true (all_below a f)))
all_append f a (suc b) = rw (add-suc, all_append f a b) (and_assoc (all_below a f) (all_below b (λ j. f (a + j))) (f (a + b)))

pub all-rows : (f : ℕ → Bool) (n w : ℕ) → all_below (n * w) f ≡ all_below n (λ i. all_below w (λ j. f (i * w + j)))
all-rows f zero w = rw zero-mul
all-rows f (suc n) w = rw suc-mul (all_append f (n * w) w ∙ ap (λ (b : Bool). b && all_below w (λ j. f (n * w + j))) (all-rows f n w))

pub fold_more {ℓ} : {A : Type ℓ} (f : ℕ → A → A) (a : A) (i : ℕ) → fold_below (i + 1) a f ≡ f i (fold_below i a f)
fold_more f a i = rw add-one

-- what `&s[a..]` hands on
pub part_is-drop : {A : Type 0} (a : ℕ) (s : List A) → take (length s - a) (drop a s) ≡ drop a s
part_is-drop a s = take_all (length s - a) (drop a s) (rw length-drop (le_refl (length s - a)))

-- row i of n rows of w lies within
pub row_within : (i n w : ℕ) → i < n → i * w + w ≤ n * w
row_within i n w h = rw (← suc-mul) (mul-le-mul_right w h)
