-- The lines of a page, written one after another into borrowed parts of the buffer.
use mathlib.Core.Path.{◌≡◌, refl, sym, ap, ◌∙◌}
use mathlib.Core.List.{List, []}
use mathlib.Core.Option.{Option, none, some}
use Prim.Native.Nat.{ℕ, suc, ◌+◌, ◌-◌, ◌*◌, ◌≤◌, ◌<◌}
use native.Mathlib.Numerals.{add-one}
use native.Mathlib.Omega.{arith}
use lib.Dec.{eqb}
use lib.ListN.{length, get_or, take, drop}
use lib.Seq.{take_all}
use borrow.Rule.Slice.PartMut.{put_mid}
use Rattle.automaton.specs.Explore.{Reached, first_that}
use Rattle.definitions.specs.Answer.{written}
use Rattle.definitions.specs.Bytes.{byte}
use Rattle.definitions.specs.Book.{states}
use Rattle.definitions.specs.Checked.{BookPassed}
use Rattle.definitions.specs.Rows.{laid}
use Rattle.definitions.specs.Verdict.{states_reached}
use Rattle.definitions.specs.Page.{length_columns, page_lines, page}
use Rattle.definitions.proofs.RowsWritten.{laid_none, laid-front, laid-length, laid-turn}
use Rattle.definitions.proofs.PageLines.{lines-count, lines_at, lines-wide}
use Rattle.page.specs.Depths.{depth_of, DepthsOf}
use Rattle.page.specs.LineColumns.{depth_columns, line_of}

depth_shows : (o : Option Reached) → depth_columns (depth_of o) ≡ length_columns o
depth_shows none = refl
depth_shows (some t) = refl

-- the loop's invariant: i lines are written
pub record LinesWritten (b before : List ℕ) (n i : ℕ) (out : List ℕ) : Type 0 where
  pub within : i ≤ n
  pub are : out ≡ laid 0 (take i (page_lines b)) before

module _ (b before : List ℕ) (ok : BookPassed b) (room : 9271 ≤ length before) (n : ℕ) (count : n ≡ states b) where
  pub few : n ≤ 127
  few = omega (arith, ok.layout.header.states_most)

  pub lines_begun : LinesWritten b before n 0 before
  lines_begun = record { within = omega arith; are = sym (laid_none 0 before) }

  module _ (i : ℕ) (out : List ℕ) (W : LinesWritten b before n i out) where
    pub lines-length : length out ≡ length before
    lines-length =
        ap length W.are
        ∙ laid-length 0 73 (page_lines b) before (lines-wide b) i (omega (arith, lines-count b, W.within)) (omega (arith, few, W.within))

    -- the line of state i + 1 is written to the front of the part that begins after i lines
    pub lines-turn : i < n → (depths part : List ℕ) (depth : ℕ) → DepthsOf b depths → depth ≡ byte depths (i + 1)
        → part ≡ written (line_of b (i + 1) depth) (drop (i * 73) out) → LinesWritten b before n (i + 1) (put_mid (i * 73) (length out - i * 73) out part)
    lines-turn l depths part depth D e is = record {
      within = omega arith;
      are = laid-turn 0 73 (page_lines b) before (lines-wide b) i out part (i * 73) (omega (arith, lines-count b)) (omega (arith, few)) W.are (omega arith)
          (is ∙ ap (λ (line : List ℕ). written line (drop (i * 73) out)) here);
    }
      where
        here : line_of b (i + 1) depth ≡ get_or (page_lines b) i []
        here =
            let shown : depth_columns depth ≡ length_columns (first_that (eqb (suc i)) (states_reached b)) =
            ap depth_columns (e ∙ ap (byte depths) (add-one i) ∙ D (suc i) (omega arith) (omega arith))
            ∙ depth_shows (first_that (eqb (suc i)) (states_reached b)) in
            rw (lines_at b i (omega arith), add-one i, shown)

    pub lines-done : n ≤ i → out ≡ written (page b) before
    unfolding page
    lines-done l =
        W.are ∙ ap (λ (rows : List (List ℕ)). laid 0 rows before) (take_all i (page_lines b) (omega (arith, lines-count b)))
        ∙ laid-front (page_lines b) before
