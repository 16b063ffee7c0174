-- Arrays whose first entries are the values of a function: filled entry by entry, and through a part of them that is handed on.
use mathlib.Core.Path.{◌≡◌, sym, ap, ◌∙◌}
use mathlib.Core.List.{List, [], ◌++◌, append-nil}
use Prim.Native.Nat.{ℕ, ◌+◌, ◌-◌, ◌<◌, ◌≤◌}
use native.Mathlib.Decide.{dec_lt}
use native.Mathlib.Omega.{arith}
use native.Mathlib.Nat.{le_refl}
use lib.ListN.{length, get_or, take, drop, length-drop, drop_of_length-le, get_or-append}
use lib.Seq.{get_or-take, get_or-append-add, length-take-le}
use borrow.Rule.Slice.PartMut.{put_mid, same_len_mid}
use Rattle.automaton.specs.Below.{list_below}
use Rattle.automaton.proofs.Below.{length-list-below, get_or-list-below}
use Rattle.automaton.proofs.FilledList.{FilledUpTo}
use Rattle.rules.specs.Arrays.{Tabled}

pub tabled-none : (f : ℕ → ℕ) (l : List ℕ) → Tabled 0 f l
tabled-none f l = record { room = omega arith; entry = λ i b. absurd (omega arith) }

-- what a loop leaves that has filled n entries
pub filled_tabled : {f : ℕ → ℕ} {old l : List ℕ} {i : ℕ} (n : ℕ) → FilledUpTo f old i l → i ≡ n → Tabled n f l
filled_tabled {f} {old} {l} {i} n filled e =
    let all : Tabled i f l = record { room = omega (arith, filled.within, filled.long); entry = entry } in
    rw e at all
  where
    entry : (k : ℕ) → k < i → get_or l k 0 ≡ f k
    entry k b =
        ap (λ (l : List ℕ). get_or l k 0) filled.is
        ∙ get_or-append (list_below i f) (drop i old) 0 k (rw (length-list-below f i) b)
        ∙ get_or-list-below f i k 0 b

-- an array cut down to those entries
pub tabled-take : (n q : ℕ) (f : ℕ → ℕ) (l : List ℕ) → q ≡ n → Tabled n f l → Tabled n f (take q l)
tabled-take n q f l e t = record {
  room = rw (length-take-le q l (omega (arith, t.room))) (omega arith);
  entry = λ i b. get_or-take q l i 0 (omega arith) ∙ t.entry i b;
}

-- the part of l that begins at a was handed on, and has come back with n entries
pub tabled_part : (a n : ℕ) (f g h : ℕ → ℕ) (l part : List ℕ) → length part ≡ length (take (length l - a) (drop a l)) → Tabled a f l → Tabled n g part
    → ((i : ℕ) → i < a → f i ≡ h i) → ((j : ℕ) → j < n → g j ≡ h (a + j)) → a + n ≤ length l → Tabled (a + n) h (put_mid a (length l - a) l part)
tabled_part a n f g h l part e before here first then room = record {
  room = rw (same_len_mid a (length l - a) l part e) room;
  entry = λ i b. go i b (dec_lt i a);
}
  where
    front : length (take a l) ≡ a
    front = length-take-le a l before.room

    rest : drop (length l - a) (drop a l) ≡ []
    rest = drop_of_length-le (drop a l) {i = length l - a} (rw length-drop (le_refl (length l - a)))

    go : (i : ℕ) → i < a + n → Dec (i < a) → get_or (put_mid a (length l - a) l part) i 0 ≡ h i
    go i b (yes c) =
        get_or-append (take a l) (part ++ drop (length l - a) (drop a l)) 0 i (rw front c)
        ∙ get_or-take a l i 0 c ∙ before.entry i c ∙ first i c
    go i b (no c) =
        let back : a + (i - a) ≡ i = omega arith in
        let at : length (take a l) + (i - a) ≡ i = rw front back in
        rw (rest, append-nil) (ap (λ (k : ℕ). get_or (take a l ++ part) k 0) (sym at) ∙ get_or-append-add (take a l) part (i - a) 0)
        ∙ here.entry (i - a) (omega arith) ∙ then (i - a) (omega arith) ∙ ap h back
