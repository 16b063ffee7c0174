-- Rounds of refinement: after k rounds two states are in one class exactly when the same histories of at most k codes are possible from each, and a
-- class has the number of its first state.
use mathlib.Core.Path.{◌≡◌, refl, sym, ap, ◌∙◌}
use mathlib.Core.Logic.Iff
use mathlib.Core.Logic.{◌↔◌}
use mathlib.Core.Bool.{true≢false, false≢true}
use mathlib.Core.List.{List, [], ◌∷◌, map}
use Prim.Native.Nat.{ℕ, zero, suc, ◌≤◌, ◌<◌}
use native.Mathlib.Omega.{arith}
use native.Mathlib.Nat.{le_of_suc-le-suc, not-suc-le-zero}
use lib.ListN.{length, get_or, length-map, get_or-map}
use lib.Seq.{ext_get_or}
use Rattle.automaton.specs.Below.{same_list}
use Rattle.automaton.specs.History.{History}
use Rattle.automaton.specs.Machine.{Machine, step, is_state, possible_from}
use Rattle.automaton.specs.Table.{tabled}
use Rattle.automaton.specs.Join.{class_of, class_rows, first_like, refine, together, classes_after}
use Rattle.automaton.proofs.Below.{place_found, place-hit, same-list-refl, same-list-true}
use Rattle.automaton.proofs.Machine.{is_state_law, state-is}
use Rattle.automaton.proofs.WellFormed.{IsTable, get_or-map-within, step-entry, step-inside}

-- the same histories of at most k codes are possible from x and y
abbrev pub AlikeWithin : ℕ → Machine → ℕ → ℕ → Type 0
AlikeWithin k m x y = (h : History) → length h ≤ k → possible_from m x h ≡ possible_from m y h

-- each code leads from x and y to the same class
abbrev SameSteps : List ℕ → Machine → ℕ → ℕ → Type 0
SameSteps cs m x y = (c : ℕ) → class_of cs (step m x c) ≡ class_of cs (step m y c)

-- two states of a table are in one class of cs exactly when the same histories of at most k codes are possible from each
abbrev pub ClassesWithin : ℕ → List (List ℕ) → ℕ → List ℕ → Type 0
ClassesWithin w rows k cs = (x y : ℕ) → x ≤ length rows → y ≤ length rows → (class_of cs x ≡ class_of cs y) ↔ AlikeWithin k (tabled w rows) x y

-- cs has the class of each of n states, and a class has the number of its first state
pub record NamedByFirst (n : ℕ) (cs : List ℕ) : Type 0 where
  pub long : length cs ≡ n
  pub state : (x : ℕ) → x ≤ n → is_state (class_of cs x) ≡ is_state x
  pub low : (x : ℕ) → x ≤ n → class_of cs x ≤ x
  pub own : (x : ℕ) → x ≤ n → class_of cs (class_of cs x) ≡ class_of cs x

pub class_positive : (n : ℕ) (cs : List ℕ) → NamedByFirst n cs → (x : ℕ) → 1 ≤ x → x ≤ n → 1 ≤ class_of cs x
class_positive n cs named x h l = state-is (class_of cs x) (named.state x l ∙ is_state_law x h)

-- the start is a class
pub class_of-start : (n : ℕ) (cs : List ℕ) → NamedByFirst n cs → 1 ≤ n → class_of cs 1 ≡ 1
class_of-start n cs named h = omega (arith, named.low 1 h, class_positive n cs named 1 (omega arith) h)

-- no state is in the class of 0
same-state : (n : ℕ) (cs : List ℕ) → NamedByFirst n cs → (x y : ℕ) → x ≤ n → y ≤ n → class_of cs x ≡ class_of cs y → is_state x ≡ is_state y
same-state n cs named x y lx ly e = sym (named.state x lx) ∙ ap is_state e ∙ named.state y ly

-- the first row that is equal to row i
record FirstLike (rows : List (List ℕ)) (i : ℕ) : Type 0 where
  first : ℕ
  place : first_like rows (get_or rows i []) ≡ suc first
  low : first ≤ i
  equal : get_or rows first [] ≡ get_or rows i []

first_like_law : (rows : List (List ℕ)) (i : ℕ) → i < length rows → FirstLike rows i
first_like_law rows i h =
    let row = get_or rows i [] in
    let found = place_found (same_list row) [] rows i h (same-list-refl row) in
    let hit = place-hit (same_list row) [] rows found.0 found.2 in
    record { first = found.0; place = found.2; low = found.1; equal = sym (same-list-true row (get_or rows found.0 []) hit.1) }

-- classes after a round, by the rows of classes before it
module _ (rows : List (List ℕ)) (cs : List ℕ) where
  length-class-rows : length (class_rows cs rows) ≡ length rows
  length-class-rows = length-map rows (map (class_of cs))

  class_refined : (i : ℕ) → i < length rows → class_of (refine rows cs) (suc i) ≡ first_like (class_rows cs rows) (get_or (class_rows cs rows) i [])
  class_refined i h = get_or-map-within (first_like (class_rows cs rows)) (class_rows cs rows) i [] 0 (rw length-class-rows h)

  first_refined : (i : ℕ) → i < length rows → FirstLike (class_rows cs rows) i
  first_refined i h = first_like_law (class_rows cs rows) i (rw length-class-rows h)

  refine-named : NamedByFirst (length rows) (refine rows cs)
  refine-named = record {
    long = length-map (class_rows cs rows) (first_like (class_rows cs rows)) ∙ length-class-rows;
    state = state;
    low = low;
    own = own;
  }
    where
      class : (i : ℕ) (h : i < length rows) → class_of (refine rows cs) (suc i) ≡ suc (first_refined i h).first
      class i h = class_refined i h ∙ (first_refined i h).place

      state : (x : ℕ) → x ≤ length rows → is_state (class_of (refine rows cs) x) ≡ is_state x
      state zero h = refl
      state (suc i) h = rw (class i h)

      low : (x : ℕ) → x ≤ length rows → class_of (refine rows cs) x ≤ x
      low zero h = omega arith
      low (suc i) h = omega (arith, class i h, (first_refined i h).low)

      own : (x : ℕ) → x ≤ length rows → class_of (refine rows cs) (class_of (refine rows cs) x) ≡ class_of (refine rows cs) x
      own zero h = refl
      own (suc i) h =
          let like = first_refined i h in
          let inside : like.first < length rows = omega (arith, like.low) in
          ap (class_of (refine rows cs)) (class i h)
          ∙ class_refined like.first inside
          ∙ ap (first_like (class_rows cs rows)) like.equal
          ∙ sym (class_refined i h)

  -- two states are in one class after a round exactly when their rows of classes are equal
  same_refined : (i j : ℕ) → i < length rows → j < length rows
      → (class_of (refine rows cs) (suc i) ≡ class_of (refine rows cs) (suc j)) ↔ (get_or (class_rows cs rows) i [] ≡ get_or (class_rows cs rows) j [])
  same_refined i j hi hj = (to, from)
    where
      a : FirstLike (class_rows cs rows) i
      a = first_refined i hi

      b : FirstLike (class_rows cs rows) j
      b = first_refined j hj

      to : class_of (refine rows cs) (suc i) ≡ class_of (refine rows cs) (suc j) → get_or (class_rows cs rows) i [] ≡ get_or (class_rows cs rows) j []
      to e =
          let one : a.first ≡ b.first = cc (class_refined i hi, class_refined j hj, a.place, b.place) in
          sym a.equal ∙ rw one b.equal

      from : get_or (class_rows cs rows) i [] ≡ get_or (class_rows cs rows) j [] → class_of (refine rows cs) (suc i) ≡ class_of (refine rows cs) (suc j)
      from e = class_refined i hi ∙ ap (first_like (class_rows cs rows)) e ∙ sym (class_refined j hj)

module _ (w : ℕ) (rows : List (List ℕ)) (ok : IsTable w rows) where
  class-row_at : (cs : List ℕ) (i c : ℕ) → get_or (get_or (class_rows cs rows) i []) c 0 ≡ class_of cs (step (tabled w rows) (suc i) c)
  class-row_at cs i c =
      ap (λ (row : List ℕ). get_or row c 0) (get_or-map (map (class_of cs)) rows i [])
      ∙ get_or-map (class_of cs) (get_or rows i []) c 0
      ∙ ap (class_of cs) (sym (step-entry w rows ok (suc i) c))

  length-class-row : (cs : List ℕ) (i : ℕ) → i < length rows → length (get_or (class_rows cs rows) i []) ≡ w
  length-class-row cs i h =
      ap length (get_or-map (map (class_of cs)) rows i [])
      ∙ length-map (get_or rows i []) (class_of cs)
      ∙ ok.wide i h

  -- rows of classes are equal exactly when each code leads to the same class
  same-steps : (cs : List ℕ) (i j : ℕ) → i < length rows → j < length rows
      → (get_or (class_rows cs rows) i [] ≡ get_or (class_rows cs rows) j []) ↔ SameSteps cs (tabled w rows) (suc i) (suc j)
  same-steps cs i j hi hj = (
    λ e c. sym (class-row_at cs i c) ∙ ap (λ (row : List ℕ). get_or row c 0) e ∙ class-row_at cs j c,
    λ same. ext_get_or 0 (get_or (class_rows cs rows) i []) (get_or (class_rows cs rows) j []) (length-class-row cs i hi ∙ sym (length-class-row cs j hj))
        (λ c h. class-row_at cs i c ∙ same c ∙ sym (class-row_at cs j c)),
  )

  -- a round joins two states, or 0 and 0, exactly when each code leads to the same class
  round_joins : (cs : List ℕ) (x y : ℕ) → x ≤ length rows → y ≤ length rows → is_state x ≡ is_state y
      → (class_of (refine rows cs) x ≡ class_of (refine rows cs) y) ↔ SameSteps cs (tabled w rows) x y
  round_joins cs zero zero lx ly e = (λ p c. refl, λ p. refl)
  round_joins cs zero (suc j) lx ly e = absurd (false≢true e)
  round_joins cs (suc i) zero lx ly e = absurd (true≢false e)
  round_joins cs (suc i) (suc j) lx ly e = Iff.trans (same_refined rows cs i j lx ly) (same-steps cs i j lx ly)

  -- before the first round all states have class 1
  class-first : (i : ℕ) → i < length rows → class_of (classes_after rows 0) (suc i) ≡ 1
  class-first i h = get_or-map-within together rows i [] 0 h

  -- a class has the number of its first state
  pub classes-after-named : (k : ℕ) → NamedByFirst (length rows) (classes_after rows k)
  classes-after-named zero = record { long = length-map rows together; state = state; low = low; own = own }
    where
      state : (x : ℕ) → x ≤ length rows → is_state (class_of (classes_after rows 0) x) ≡ is_state x
      state zero h = refl
      state (suc i) h = ap is_state (class-first i h)

      low : (x : ℕ) → x ≤ length rows → class_of (classes_after rows 0) x ≤ x
      low zero h = omega arith
      low (suc i) h = omega (arith, class-first i h)

      own : (x : ℕ) → x ≤ length rows → class_of (classes_after rows 0) (class_of (classes_after rows 0) x) ≡ class_of (classes_after rows 0) x
      own zero h = refl
      own (suc i) h = rw (class-first i h) (class-first 0 ok.some)
  classes-after-named (suc k) = refine-named rows (classes_after rows k)

  -- a round adds one code to the histories that count
  next_round_law : (k : ℕ) (cs : List ℕ) → ClassesWithin w rows k cs → ClassesWithin w rows (suc k) (refine rows cs)
  next_round_law k cs before x y lx ly = (to, from)
    where
      M : Machine
      M = tabled w rows

      step-before : (c : ℕ) → (class_of cs (step M x c) ≡ class_of cs (step M y c)) ↔ AlikeWithin k M (step M x c) (step M y c)
      step-before c = before (step M x c) (step M y c) (step-inside w rows ok x c) (step-inside w rows ok y c)

      to : class_of (refine rows cs) x ≡ class_of (refine rows cs) y → AlikeWithin (suc k) M x y
      to e [] l = same-state (length rows) (refine rows cs) (refine-named rows cs) x y lx ly e
      to e (c ∷ h) l =
          let same = (round_joins cs x y lx ly (same-state (length rows) (refine rows cs) (refine-named rows cs) x y lx ly e)).0 e in
          (step-before c).0 (same c) h (le_of_suc-le-suc l)

      from : AlikeWithin (suc k) M x y → class_of (refine rows cs) x ≡ class_of (refine rows cs) y
      from alike =
          (round_joins cs x y lx ly (alike [] (omega arith))).1 (λ c. (step-before c).1 (λ h l. alike (c ∷ h) (omega arith)))

  -- after k rounds two states are in one class exactly when the same histories of at most k codes are possible from each
  pub classes_after_law : (k : ℕ) → ClassesWithin w rows k (classes_after rows k)
  classes_after_law zero x y lx ly = (to, λ alike. from x y lx ly (alike [] (omega arith)))
    where
      to : class_of (classes_after rows 0) x ≡ class_of (classes_after rows 0) y → AlikeWithin 0 (tabled w rows) x y
      to e [] l = same-state (length rows) (classes_after rows 0) (classes-after-named 0) x y lx ly e
      to e (c ∷ h) l = absurd (not-suc-le-zero l)

      from : (x y : ℕ) → x ≤ length rows → y ≤ length rows → is_state x ≡ is_state y → class_of (classes_after rows 0) x ≡ class_of (classes_after rows 0) y
      from zero zero lx ly e = refl
      from zero (suc j) lx ly e = absurd (false≢true e)
      from (suc i) zero lx ly e = absurd (true≢false e)
      from (suc i) (suc j) lx ly e = class-first i lx ∙ sym (class-first j ly)
  classes_after_law (suc k) x y lx ly = next_round_law k (classes_after rows k) (classes_after_law k) x y lx ly
