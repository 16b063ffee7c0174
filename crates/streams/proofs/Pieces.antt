-- What came in by one read, and by one after another.
use mathlib.Core.Path.{◌≡◌, sym, ap, ◌∙◌}
use mathlib.Core.List.{List}
use Prim.Native.Nat.{ℕ, ◌+◌, ◌≤◌, ◌<◌}
use native.Mathlib.Omega.{arith}
use lib.ListN.{length, drop, get_or}
use lib.Seq.{drop-drop, get_or-take, get_or-drop}
use Rattle.std.specs.Prelude.{Ok, Err}
use Rattle.streams.specs.Input.{Came, Filled}
use Rattle.streams.specs.declared.StreamError.{StreamError}
use Rattle.streams.specs.declared.StreamError.TheVariants.{Unread}

-- what one read brings lies within the buffer, and each byte before it and behind it is the one that was there
module _ (n at : ℕ) (before after : List ℕ) (c : Came (Ok n) at before after) where
  pub came_inside : at + n ≤ length before
  came_inside = c.0

  pub came_before : (k : ℕ) → k < at → get_or after k 0 ≡ get_or before k 0
  came_before k l = sym (get_or-take at after k 0 l) ∙ ap (λ (bytes : List ℕ). get_or bytes k 0) c.1 ∙ get_or-take at before k 0 l

  pub came_behind : (k : ℕ) → get_or after (at + n + k) 0 ≡ get_or before (at + n + k) 0
  came_behind k = sym (get_or-drop (at + n) after k 0) ∙ ap (λ (bytes : List ℕ). get_or bytes k 0) c.2 ∙ get_or-drop (at + n) before k 0

-- what is known once n bytes have come, and after one more read
pub record BytesCame (n : ℕ) (before after : List ℕ) : Type 0 where
  pub fits : n ≤ length after
  pub stays : drop n after ≡ drop n before

pub then : {n : ℕ} {before middle : List ℕ} (more : ℕ) (after : List ℕ) → BytesCame n before middle → Came (Ok more) n middle after → length after ≡ length middle → BytesCame (n + more) before after
then {n} {before} {middle} more after b c l =
    record {
      fits = omega arith;
      stays = c.2 ∙ sym (drop-drop more n middle) ∙ ap (drop more) b.stays ∙ drop-drop more n before;
    }

-- a read that fails is told as one, and leaves what had come before as it was
pub failed : {n : ℕ} {before middle after : List ℕ} (e : StreamError) → BytesCame n before middle → Came (Err e) n middle after → (e ≡ Unread) × BytesCame n before after
failed e b c = (c.0, rw c.1 b)

-- what is told at the end is what came, whole
pub done : {n : ℕ} {before after : List ℕ} → BytesCame n before after → Filled (Ok n) before after
done b = (b.fits, b.stays)

pub filled : {n : ℕ} {before after : List ℕ} → Filled (Ok n) before after → BytesCame n before after
filled f = record { fits = f.0; stays = f.1 }

-- and where a read failed, that one did
pub unfilled : (e : StreamError) (before after : List ℕ) → Filled (Err e) before after → e ≡ Unread
unfilled e before after f = f
