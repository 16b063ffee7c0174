-- Texts put into a buffer one after another are their join put there at once.
use mathlib.Core.Path.{◌≡◌, refl, sym, ap, ◌∙◌}
use mathlib.Core.List.{List, [], ◌∷◌, ◌++◌, append_assoc}
use Prim.Native.Nat.{ℕ, suc, ◌+◌, ◌-◌, ◌/◌, ◌≤◌, ◌<◌}
use native.Mathlib.Nat.{add-zero}
use native.Mathlib.Omega.{arith}
use lib.ListN.{length, set, length-append}
use lib.Seq.{sets, sets-eq, take-length}
use borrow.Rule.Slice.PartMut.{put_mid}
use borrow.Author.Tests.{lt-ltb, le-ltb}
use Rattle.std.proofs.lemmas.Slice.{put_mid-paste}
use Rattle.definitions.specs.Decimal.{digit, decimal}
use Rattle.text.specs.Put.{Put}

sets_append : (xs ys l : List ℕ) (i : ℕ) → sets l i (xs ++ ys) ≡ sets (sets l i xs) (i + length xs) ys
sets_append [] ys l i = rw add-zero
sets_append (x ∷ xs) ys l i =
    let e : suc i + length xs ≡ i + suc (length xs) = omega arith in
    sets_append xs ys (set l i x) (suc i) ∙ ap (λ (k : ℕ). sets (sets (set l i x) (suc i) xs) k ys) e

-- one text after another
pub then : {before middle after x y : List ℕ} {at next end : ℕ} → Put before at x middle next → Put middle next y after end → Put before at (x ++ y) after end
then {before} {x = x} {y = y} {at = at} p q =
    record {
      stored = q.stored ∙ rw (p.stored, p.ends) (sym (sets_append x y before at));
      ends = omega (arith, length-append x y);
    }

-- a text before one that has two parts
pub then_both : {before middle after x : List ℕ} {at next end : ℕ} (y z : List ℕ) → Put before at x middle next → Put middle next (y ++ z) after end → Put before at (x ++ y ++ z) after end
then_both {x = x} y z p q = rw (append_assoc x y z) (then p q)

-- no text, and one byte
pub nothing_put : (before : List ℕ) (at : ℕ) → Put before at [] before at
nothing_put before at = record { stored = refl; ends = sym (add-zero at) }

pub byte_put : (before : List ℕ) (at b : ℕ) → Put before at (b ∷ []) (set before at b) (at + 1)
byte_put before at b = record { stored = refl; ends = refl }

-- the digits of a number by its size
module _ {before after : List ℕ} {at next : ℕ} (n : ℕ) where
  pub one-digit : n < 10 → Put before at (digit n ∷ []) after next → Put before at (decimal n) after next
  one-digit l p = rw (lt-ltb n 10 l) p

  pub two_digits : 10 ≤ n → n < 100 → Put before at (digit (n / 10) ∷ digit n ∷ []) after next → Put before at (decimal n) after next
  two_digits l m p = rw (le-ltb n 10 l, lt-ltb n 100 m) p

  pub three_digits : 100 ≤ n → Put before at (digit (n / 100) ∷ digit (n / 10) ∷ digit n ∷ []) after next → Put before at (decimal n) after next
  three_digits l p = rw (le-ltb n 10 (omega arith), le-ltb n 100 l) p

-- bytes that were copied into the part from a place on
pub copied : (before bytes part : List ℕ) (at : ℕ) → part ≡ bytes → at + length bytes ≤ length before
    → Put before at bytes (put_mid at (at + length bytes - at) before part) (at + length bytes)
copied before bytes part at e fits =
    record {
      stored = put_mid-paste at (at + length bytes - at) before part bytes (length bytes) e (omega arith) refl ∙ rw (take-length bytes) (sym (sets-eq bytes before at fits));
      ends = refl;
    }
