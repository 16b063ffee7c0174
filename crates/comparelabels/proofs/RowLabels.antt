-- Where a word of either row is 0 its places have one label.
use mathlib.Core.Path.{◌≡◌}
use mathlib.Core.List.{List}
use Prim.Native.Nat.{ℕ, ◌+◌, ◌≤◌}
use native.Mathlib.Omega.{arith}
use Rattle.bytewords.specs.ByteWords.{word_at, WordBytes}
use Rattle.bytewords.proofs.ByteWords.{word_zeros}
use Rattle.comparelabels.specs.RowLabels.{RowPair, SameLabel}
use Rattle.comparelabels.specs.FirstFailing.{FirstFailing}
use Rattle.comparelabels.proofs.FirstFailing.{fails-nowhere}

module _ (one other : List ℕ) (base : ℕ) (label : List ℕ) (at : ℕ) where
  pub zeros_alike : RowPair one other base label → WordBytes one at → WordBytes other at → word_at one at ≡ 0 → word_at other at ≡ 0
      → (k end : ℕ) → at ≤ k → k ≤ end → end ≤ at + 8 → FirstFailing (SameLabel one other base label) k end end
  zeros_alike R X Y ex ey k end low l high = fails-nowhere (SameLabel one other base label) k end l
      (λ j h b. rw (word_zeros one at X ex j (omega arith) (omega arith), word_zeros other at Y ey j (omega arith) (omega arith)) R.none)
