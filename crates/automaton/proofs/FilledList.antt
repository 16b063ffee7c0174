-- A list that is filled in place from its front, place i with f i: what holds on the way.
use mathlib.Core.Path.{◌≡◌, refl, ap, sym, ◌∙◌}
use mathlib.Core.List.{List, ◌∷◌, ◌++◌, map, append-nil}
use Prim.Native.Nat.{ℕ, suc, ◌+◌, ◌≤◌, ◌<◌}
use native.Mathlib.Numerals.{add-one}
use native.Mathlib.Omega.{arith}
use lib.ListN.{length, get_or, set, drop, length-map, length-set, drop_of_length-le}
use lib.Seq.{drop-cons, append_snoc, set_at, get_or_at, ext_get_or}
use Rattle.automaton.specs.Below.{list_below}
use Rattle.automaton.proofs.Below.{length-list-below, get_or-list-below}
use Rattle.automaton.proofs.WellFormed.{get_or-map-within}

-- the first i places are filled, and the others are as they were
pub record FilledUpTo (f : ℕ → ℕ) (old : List ℕ) (i : ℕ) (l : List ℕ) : Type 0 where
  pub within : i ≤ length old
  pub long : length l ≡ length old
  pub is : l ≡ list_below i f ++ drop i old

pub filled_begun : (f : ℕ → ℕ) (old : List ℕ) → FilledUpTo f old 0 old
filled_begun f old = record { within = omega arith; long = refl; is = refl }

module _ {f : ℕ → ℕ} {old l : List ℕ} {i : ℕ} (now : FilledUpTo f old i l) where
  pub filled_done : length old ≤ i → l ≡ list_below (length old) f
  filled_done b =
      let all : i ≡ length old = omega (arith, now.within) in
      now.is ∙ rw (drop_of_length-le old {i = i} b, append-nil, all)

  seam : i < length old → l ≡ list_below i f ++ (get_or old i 0 ∷ drop (suc i) old)
  seam b = now.is ∙ rw (drop-cons old i 0 b)

  -- the next number is still the old one
  pub filled_next : i < length old → get_or l i 0 ≡ get_or old i 0
  filled_next b = rw (seam b) (get_or_at (list_below i f) (get_or old i 0) (drop (suc i) old) 0 i (length-list-below f i))

  pub filled_turn : {x : ℕ} → i < length old → x ≡ f i → FilledUpTo f old (i + 1) (set l i x)
  filled_turn {x} b e = rw add-one (record {
    within = b;
    long = length-set l i x ∙ now.long;
    is =
        ap (λ (k : List ℕ). set k i x) (seam b)
        ∙ (set_at (list_below i f) (get_or old i 0) (drop (suc i) old) x i (length-list-below f i)
        ∙ rw e (sym (append_snoc (list_below i f) (f i) (drop (suc i) old))));
  })

-- a function applied to each element of a list, place by place
module _ (g : ℕ → ℕ) where
  abbrev pub elsewhere : List ℕ → ℕ → ℕ
  elsewhere l k = g (get_or l k 0)

  pub map_below : (l : List ℕ) → list_below (length l) (elsewhere l) ≡ map g l
  map_below l = ext_get_or 0 (list_below (length l) (elsewhere l)) (map g l) (long ∙ sym (length-map l g)) each
    where
      long : length (list_below (length l) (elsewhere l)) ≡ length l
      long = length-list-below (elsewhere l) (length l)

      each : (k : ℕ) → k < length (list_below (length l) (elsewhere l)) → get_or (list_below (length l) (elsewhere l)) k 0 ≡ get_or (map g l) k 0
      each k b = get_or-list-below (elsewhere l) (length l) k 0 (omega (arith, long)) ∙ sym (get_or-map-within g l k 0 0 (omega (arith, long)))
