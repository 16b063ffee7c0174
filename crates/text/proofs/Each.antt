-- The texts of a list's elements, put one after another: one more each turn.
use mathlib.Core.Path.{◌≡◌, refl}
use mathlib.Core.List.{List, [], ◌∷◌, ◌++◌, append_assoc, append-nil}
use Prim.Native.Nat.{ℕ, ◌+◌, ◌*◌, ◌≤◌, ◌<◌}
use native.Mathlib.Numerals.{add-one}
use native.Mathlib.Nat.{mul-suc}
use native.Mathlib.Omega.{arith}
use lib.ListN.{length, get_or, take}
use lib.Seq.{take-suc}
use Rattle.definitions.specs.Characters.{blank}
use Rattle.definitions.specs.Decimal.{decimal}
use Rattle.text.specs.Put.{Put}
use Rattle.text.specs.Each.{each_text, Texts, PutsText}
use Rattle.text.proofs.Puts.{then}

each_append : (text : ℕ → List ℕ) (xs ys : List ℕ) → each_text text (xs ++ ys) ≡ each_text text xs ++ each_text text ys
each_append text [] ys = refl
each_append text (x ∷ xs) ys = rw (each_append text xs ys, append_assoc)

-- the loop's invariant: the texts of the first i elements are put
pub record EachPut (texts : Texts) (before xs : List ℕ) (at i next : ℕ) (out : List ℕ) : Type 0 where
  pub short : next ≤ at + texts.most * i
  pub put : Put before at (each_text texts.text_of (take i xs)) out next

module _ {texts : Texts} {before xs : List ℕ} {at i next : ℕ} {out : List ℕ} (t : EachPut texts before xs at i next out) where
  pub each_turn : {after : List ℕ} {end : ℕ} → i < length xs → PutsText texts out next (get_or xs i 0) after end → EachPut texts before xs at (i + 1) end after
  each_turn l p =
      record {
        short = rw (add-one i, mul-suc texts.most i) (omega (arith, t.short, p.upper_bound));
        put = rw (add-one i, take-suc xs i 0 l, each_append, append-nil) (then t.put p.put);
      }

-- the text of a history's codes is that of each, after a blank
abbrev pub code_text : ℕ → List ℕ
code_text c = blank ∷ decimal c
