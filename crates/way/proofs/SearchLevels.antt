-- How many codes lead to the states that a search has found and not visited yet: a visit finds states one code further on, and the level changes where all states of
-- one number of codes have been visited.
use mathlib.Core.Path.{◌≡◌, sym, ap, ◌∙◌}
use mathlib.Core.List.{[]}
use Prim.Native.Nat.{ℕ, suc, ◌+◌, ◌≤◌, ◌<◌}
use native.Mathlib.Decide.{dec_lt}
use native.Mathlib.Omega.{arith}
use lib.ListN.{length}
use borrow.Author.Tests.{lt-ltb, le-ltb}
use Rattle.automaton.specs.Machine.{Machine}
use Rattle.automaton.specs.Explore.{Reached, visit}
use Rattle.automaton.proofs.Explore.{visit-front}
use Rattle.automaton.proofs.RemainingSearch.{visit_longer}
use Rattle.search.specs.declared.breadth_first.Search.{Search}
use Rattle.search.specs.Found.{started}
use Rattle.search.specs.Searched.{found_by, reached_by, state_of, history_of}
use Rattle.search.proofs.Found.{found-length, holds-length, holds_at, holds_of, kept_grown, kept_at}
use Rattle.way.specs.FirstState.{AtLevel, next_length, next_end}

-- only the start is found, after no code
module _ {N M : ℕ} (s : Search N M) (e : found_by s ≡ started) where
  pub begun_count : s.count ≡ 1
  begun_count = holds-length (holds_of s e)

  start-is : reached_by s 0 ≡ record { state = 1; history = [] }
  start-is = sym (holds_at (holds_of s e) 0 (omega (arith, begun_count)))

  pub begun_state : state_of s 0 ≡ 1
  begun_state = ap (λ (t : Reached). t.state) start-is

  pub level_begun : AtLevel s 0 0 1
  level_begun = record {
    inside = λ l. omega arith;
    most = omega (arith, begun_count);
    few = omega arith;
    here = λ k low l. let z : k ≡ 0 = omega arith in rw z (ap (λ (t : Reached). length t.history) start-is);
    next = λ k low l. absurd (omega (arith, begun_count));
  }

-- the state at place i has been visited as far as code c, which leaves more
module _ (m : Machine) (c : ℕ) {N M : ℕ} (s : Search N M) (i : ℕ) (more : Search N M) (e : found_by more ≡ visit m (reached_by s i) c (found_by s)) where
  pub visited_grown : s.count ≤ more.count
  visited_grown = kept_grown s.count s.order s.trail more.count more.order more.trail (visit-front m (reached_by s i) c (found_by s)) e

  old : (j : ℕ) → j < s.count → history_of more j ≡ history_of s j
  old j l = ap (λ (u : Reached). u.history) (kept_at s.count s.order s.trail more.count more.order more.trail (visit-front m (reached_by s i) c (found_by s)) e j l)

  new : (j : ℕ) → s.count ≤ j → j < more.count → length (history_of more j) ≡ suc (length (history_of s i))
  new j low l =
      ap (λ (u : Reached). length u.history) (sym (holds_at (holds_of more e) j l))
      ∙ visit_longer m (reached_by s i) (found_by s) c j (omega (arith, found-length s.order s.trail s.count)) (omega (arith, holds-length (holds_of more e)))

  pub level-visited : {codes end : ℕ} → AtLevel s i codes end → i < s.count → AtLevel more i codes end
  level-visited {codes} {end} L l = record {
    inside = λ _. L.inside l;
    most = omega (arith, L.most, visited_grown);
    few = L.few;
    here = λ j low b. ap length (old j (omega (arith, L.most))) ∙ L.here j low b;
    next = λ j low b. next j low b (dec_lt j s.count);
  }
    where
      next : (j : ℕ) → end ≤ j → j < more.count → Dec (j < s.count) → length (history_of more j) ≡ suc codes
      next j low b (yes found) = ap length (old j found) ∙ L.next j low found
      next j low b (no later) = new j (omega arith) b ∙ ap suc (L.here i (omega arith) (L.inside l))

-- the state at place i has been visited
pub level-next : {N M : ℕ} {s : Search N M} {i codes end : ℕ} → AtLevel s i codes end → i < s.count
    → AtLevel s (i + 1) (next_length codes end (i + 1)) (next_end end (i + 1) s.count)
level-next {s = s} {i} {codes} {end} L l = go (dec_lt (i + 1) end)
  where
    go : Dec (i + 1 < end) → AtLevel s (i + 1) (next_length codes end (i + 1)) (next_end end (i + 1) s.count)
    go (yes more) = rw (lt-ltb (i + 1) end more) (record {
      inside = λ _. more;
      most = L.most;
      few = omega (arith, L.few);
      here = λ k low b. L.here k (omega arith) b;
      next = L.next;
    })
    go (no last) = rw (le-ltb (i + 1) end (omega arith)) (record {
      inside = λ b. b;
      most = omega arith;
      few = omega (arith, L.few);
      here = λ k low b. L.next k (omega arith) b;
      next = λ k low b. absurd (omega arith);
    })
