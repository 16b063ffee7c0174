-- Hints: each state found has left one at the place that it decides, so that a state whose place has none is new.
use mathlib.Core.Path.{◌≡◌, refl, sym, ap, ◌∙◌}
use mathlib.Core.Logic.{◌⊎◌, inl, inr}
use mathlib.Core.List.{List, [], ◌∷◌, ◌++◌}
use Prim.Native.Nat.{ℕ, zero, suc, ◌%◌, ◌<◌, ◌≤◌, max}
use native.Mathlib.Nat.{mod-lt}
use native.Mathlib.Decide.{ℕ_discrete}
use native.Mathlib.Omega.{arith}
use lib.Dec.{eqb}
use lib.ListN.{length, get_or, take, set, replicate, length-append, length-set, length-replicate, get_or-append}
use lib.Seq.{length-take-le, take-suc-set, get_or_at, get_or-set_same, get_or-set_other}
use borrow.Author.Tests.{eqb-true}
use Rattle.automaton.specs.Below.{place_of}
use Rattle.automaton.specs.StateList.{number_among, add_state}
use Rattle.automaton.proofs.Below.{below_suc, place-hit}
use Rattle.automaton.proofs.StateList.{added_none, added_length, added_cases, number_new}
use Rattle.definitions.specs.Answer.{written}
use Rattle.definitions.specs.Bytes.{byte}
use Rattle.definitions.proofs.Written.{take-written}
use Rattle.explore.specs.Reaches.{Hinted}

-- nothing is put in, or a state that is known
pub hinted_none : (l hints : List ℕ) (x : ℕ) → x ≡ 0 → Hinted l hints → Hinted (add_state l x) hints
hinted_none l hints x e H = rw (e, added_none l) H

pub hinted_known : (l hints : List ℕ) (x r : ℕ) → 0 < x → r ≡ number_among (add_state l x) x → r ≤ length l → Hinted l hints → Hinted (add_state l x) hints
hinted_known l hints x r p e few H =
    added_cases l (λ more. r ≡ number_among more x → Hinted more hints) x (λ _ _. H) (λ _ _ _. H)
    (λ state new is. absurd (omega (arith, is, number_new l x state new))) e

-- the first state
pub hinted_first : (found hints : List ℕ) (x : ℕ) → 0 < length found → 1 ≤ byte hints (x % 251) → Hinted (take 1 (set found 0 x)) hints
hinted_first found hints x room hint = rw (take-suc-set found 0 x room) (record { hint = λ k l. let e : k ≡ 0 = omega arith in rw e hint })

-- hints of which none but that for x is set
abbrev no_hints : List ℕ
no_hints = replicate 256 0

pub one-hint : (x : ℕ) → (256 ≤ length (set no_hints (x % 251) 1)) × (1 ≤ byte (set no_hints (x % 251) 1) (x % 251))
one-hint x =
    let low : x % 251 < 251 = mod-lt x (omega arith) in
    let long : length no_hints ≡ 256 = length-replicate {A = ℕ} 256 0 in
    (rw length-set (omega arith), omega (arith, get_or-set_same no_hints (x % 251) 1 0 (omega arith)))

module _ (l hints : List ℕ) (x : ℕ) (H : Hinted l hints) where
  -- where there is no hint the state is not in the list
  pub unhinted : byte hints (x % 251) ≡ 0 → place_of (eqb x) l ≡ 0
  unhinted none = go (place_of (eqb x) l) refl
    where
      go : (p : ℕ) → place_of (eqb x) l ≡ p → p ≡ 0
      go zero e = refl
      go (suc k) e =
          let hit = place-hit (eqb x) 0 l k e in
          let here : x ≡ get_or l k 0 = eqb-true x (get_or l k 0) hit.1 in
          absurd (omega (arith, H.hint k hit.0, none, ap (λ (y : ℕ). byte hints (y % 251)) here))

  -- the state is put in, and leaves its number as a hint
  module _ (number : ℕ) (some_number : 1 ≤ number) (room : x % 251 < length hints) where
    kept : (y : ℕ) → 1 ≤ byte hints y → Dec (y ≡ x % 251) → 1 ≤ byte (set hints (x % 251) number) y
    kept y h (yes e) = omega (arith, ap (byte (set hints (x % 251) number)) e, get_or-set_same hints (x % 251) number 0 room)
    kept y h (no e) = omega (arith, get_or-set_other hints (x % 251) y number 0 e)

    old : Hinted l (set hints (x % 251) number)
    old = record { hint = λ k b. kept (get_or l k 0 % 251) (H.hint k b) (ℕ_discrete (get_or l k 0 % 251) (x % 251)) }

    last : (k : ℕ) → k < length (l ++ (x ∷ [])) → 1 ≤ byte (set hints (x % 251) number) (get_or (l ++ (x ∷ [])) k 0 % 251)
    last k b = go (below_suc k (length l) (omega (arith, length-append l (x ∷ []))))
      where
        go : (k < length l) ⊎ (k ≡ length l) → 1 ≤ byte (set hints (x % 251) number) (get_or (l ++ (x ∷ [])) k 0 % 251)
        go (inl b) = rw (get_or-append l (x ∷ []) 0 k b) (old.hint k b)
        go (inr e) = rw (get_or_at l x [] 0 k (sym e), get_or-set_same hints (x % 251) number 0 room) some_number

    new : Hinted (l ++ (x ∷ [])) (set hints (x % 251) number)
    new = record { hint = last }

    pub hinted-entered : Hinted (add_state l x) (set hints (x % 251) number)
    hinted-entered = added_cases l (λ more. Hinted more (set hints (x % 251) number)) x (λ _. old) (λ _ _. old) (λ _ _. new)

-- a state that is put in has a number
pub number-some : (l : List ℕ) (x : ℕ) → 0 < x → 1 ≤ number_among (add_state l x) x
number-some l x p =
    added_cases l (λ more. 1 ≤ number_among more x) x (λ e. absurd (omega arith)) (λ k e. omega (arith, e)) (λ state new. omega (arith, number_new l x state new))

-- the states found once x is put in after the first k, r being its number
pub hinted_turn : (found : List ℕ) (k x r more : ℕ) (found' hints : List ℕ) → k ≤ length found → more ≡ max k r → r ≡ number_among (add_state (take k found) x) x
    → found' ≡ written (add_state (take k found) x) found → Hinted (add_state (take k found) x) hints → Hinted (take more found') hints
hinted_turn found k x r more found' hints room em er ef H =
    let long : length (add_state (take k found) x) ≡ more =
    added_length (take k found) x ∙ ap (λ (n : ℕ). max n (number_among (add_state (take k found) x) x)) (length-take-le k found room) ∙ ap (max k) (sym er) ∙ sym em in
    rw (ef, take-written (add_state (take k found) x) found more long) H
