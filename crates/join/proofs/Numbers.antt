-- The states of a table numbered in place of their classes, state by state. And the rows that are written with these numbers are those of the smallest table.
use mathlib.Core.Path.{◌≡◌, refl, sym, ap, ◌∙◌}
use mathlib.Core.Bool.{cond}
use mathlib.Core.Logic.{◌⊎◌, inl, inr}
use mathlib.Core.List.{List, [], ◌∷◌, ◌++◌, map}
use Prim.Native.Nat.{ℕ, zero, suc, ◌+◌, ◌-◌, ◌<◌, ◌≤◌}
use native.Mathlib.Omega.{arith}
use native.Mathlib.Nat.{le_refl}
use native.Mathlib.Numerals.{add-one}
use native.Mathlib.Decide.{dec_lt, ℕ_discrete}
use lib.Dec.{eqb}
use lib.ListN.{length, get_or, take, set, length-set, length-append, length-map, get_or-eq_default}
use lib.Seq.{ext_get_or, take-suc-set, get_or-set_same, get_or-set_other}
use borrow.Author.Tests.{eq-eqb, ne_eqb}
use Rattle.automaton.specs.Join.{class_of, classes, minimal}
use Rattle.automaton.specs.Ordered.{Ordered}
use Rattle.automaton.specs.Ranks.{firsts, rank, class_number, ranked_row, ranked}
use Rattle.automaton.specs.Table.{tabled}
use Rattle.automaton.proofs.Below.{below_suc, length-list-below, get_or-list-below}
use Rattle.automaton.proofs.Ranks.{firsts_more, firsts_same, rank-low, first_at_law, firsts_of, number_of, ranked-minimal}
use Rattle.automaton.proofs.Congruence.{map_same}
use Rattle.automaton.proofs.WellFormed.{get_or-map-within}
use Rattle.automaton.proofs.StableClasses.{classes-named}
use Rattle.definitions.specs.Bytes.{byte}
use Rattle.definitions.specs.Rows.{row_in, rows_in, TableIn}
use Rattle.join.specs.Numbers.{NamesFirst, first_states, class_numbers, StatesBelow, numbered_row, numbered_rows}
use Rattle.definitions.proofs.TableBytes.{rows-count, bytes-are-table, cons_at, row_is}

-- ---- state by state
-- the states below s have their numbers, and the first ones among them stand in the order
pub record NumberedBelow (classes numbers order : List ℕ) (k s : ℕ) : Type 0 where
  pub some : 1 ≤ s
  pub inside : s ≤ length classes
  pub long : length numbers ≡ length classes
  pub count : k ≡ rank (byte classes) (s - 1)
  pub states : take k order ≡ firsts (byte classes) (s - 1)
  pub done : (x : ℕ) → x < s → byte numbers x ≡ class_number (byte classes) x
  pub rest : (x : ℕ) → s ≤ x → byte numbers x ≡ byte classes x

-- the states in the order are numbered, and their rows are those of the smallest table
pub record JoinedRows (raw : List ℕ) (n w : ℕ) (numbers order : List ℕ) (k : ℕ) : Type 0 where
  pub table : TableIn raw n w
  pub long : length numbers ≡ suc n
  pub states : StatesBelow order (suc n)
  pub size : length order ≡ k
  pub few : k ≤ n
  pub rows : numbered_rows raw w numbers order ≡ minimal w (rows_in raw n w)

-- the first states up to s
module _ (class : ℕ → ℕ) where
  firsts-with : (s : ℕ) → 1 ≤ s → class s ≡ s → firsts class s ≡ firsts class (s - 1) ++ (s ∷ [])
  firsts-with zero p e = absurd (omega arith)
  firsts-with (suc i) p e = let before : suc i - 1 ≡ i = omega arith in rw before (firsts_more class i e)

  firsts_without : (s : ℕ) → 1 ≤ s → (class s ≡ s → ⊥) → firsts class s ≡ firsts class (s - 1)
  firsts_without zero p d = absurd (omega arith)
  firsts_without (suc i) p d = let before : suc i - 1 ≡ i = omega arith in rw before (firsts_same class i d)

module _ {classes : List ℕ} (named : NamesFirst classes) where
  abbrev class : ℕ → ℕ
  class = byte classes

  pub numbering_begun : (order : List ℕ) → NumberedBelow classes classes order 0 1
  numbering_begun order = record {
    some = omega arith;
    inside = named.some;
    long = refl;
    count = refl;
    states = refl;
    done = λ x l. first x (omega arith);
    rest = λ x l. refl;
  }
    where
      first : (x : ℕ) → x ≡ 0 → byte classes x ≡ class_number class x
      first x e = let zero : class 0 ≡ 0 = omega (arith, named.low 0 named.some) in rw (e, zero)

  module _ {numbers order : List ℕ} {count s : ℕ} (now : NumberedBelow classes numbers order count s) where
    pub numbering-count : count < s
    numbering-count = omega (arith, now.count, rank-low class (s - 1), now.some)

    pub numbering-class : byte numbers s ≡ class s
    numbering-class = now.rest s (le_refl s)

    module _ (l : s < length classes) (fits : s ≤ length order) where
      abbrev number : ℕ
      number = cond (eqb (class s) s) (count + 1) (byte numbers (class s))

      abbrev more : ℕ
      more = cond (eqb (class s) s) (count + 1) count

      abbrev listed : List ℕ
      listed = cond (eqb (class s) s) (set order count s) order

      number_is : Dec (class s ≡ s) → number ≡ class_number class s
      number_is (yes e) =
          rw (eq-eqb (class s) s e, e)
          (omega (arith, now.count, ap length (firsts-with class s now.some e), length-append (firsts class (s - 1)) (s ∷ [])))
      number_is (no d) =
          rw (ne_eqb (class s) s d) (now.done (class s) (omega (arith, named.low s l)) ∙ ap (rank class) (named.own s l))

      firsts-are : Dec (class s ≡ s) → (more ≡ rank class s) × (take more listed ≡ firsts class s)
      firsts-are (yes e) =
          let new = firsts-with class s now.some e in
          rw (eq-eqb (class s) s e) (
            omega (arith, now.count, ap length new, length-append (firsts class (s - 1)) (s ∷ [])),
            rw add-one (take-suc-set order count s (omega (arith, numbering-count))) ∙ ap (λ (l : List ℕ). l ++ (s ∷ [])) now.states ∙ sym new,
          )
      firsts-are (no d) =
          let old = firsts_without class s now.some d in
          rw (ne_eqb (class s) s d) (now.count ∙ ap length (sym old), now.states ∙ sym old)

      pub numbering-turn : {r : ℕ} {numbers' order' : List ℕ} → r ≡ cond (eqb (byte numbers s) s) (count + 1) count
          → numbers' ≡ set numbers s (cond (eqb (byte numbers s) s) (count + 1) (byte numbers (byte numbers s)))
          → order' ≡ cond (eqb (byte numbers s) s) (set order count s) order → NumberedBelow classes numbers' order' r (s + 1)
      numbering-turn er en eo =
          let are = firsts-are (ℕ_discrete (class s) s) in
          let here : s + 1 - 1 ≡ s = omega arith in
          rw (er, en, eo, numbering-class) record {
            some = omega arith;
            inside = omega arith;
            long = simp length-set now.long;
            count = rw here are.0;
            states = rw here are.1;
            done = λ x b. done x (below_suc x s (omega arith));
            rest = λ x b. get_or-set_other numbers s x number 0 (omega arith) ∙ now.rest x (omega arith);
          }
        where
          done : (x : ℕ) → (x < s) ⊎ (x ≡ s) → byte (set numbers s number) x ≡ class_number class x
          done x (inl b) = get_or-set_other numbers s x number 0 (omega arith) ∙ now.done x b
          done x (inr e) = rw e (get_or-set_same numbers s number 0 (omega (arith, now.long)) ∙ number_is (ℕ_discrete (class s) s))

    pub numbering-done : length classes ≤ s → (count ≡ length (first_states classes)) × (take count order ≡ first_states classes) × (numbers ≡ class_numbers classes)
    numbering-done l =
        let all : s ≡ length classes = omega (arith, now.inside) in (
          now.count ∙ ap (λ (n : ℕ). rank class (n - 1)) all,
          now.states ∙ ap (λ (n : ℕ). firsts class (n - 1)) all,
          ext_get_or 0 numbers (class_numbers classes) (now.long ∙ sym (length-list-below (class_number class) (length classes)))
              (λ x b. now.done x (omega (arith, now.long)) ∙ sym (get_or-list-below (class_number class) (length classes) x 0 (omega (arith, now.long)))),
        )

-- ---- the classes of alike states
module _ {raw : List ℕ} {n w : ℕ} {array : List ℕ} (ok : TableIn raw n w) (size : length array ≡ suc n) (are : array ≡ 0 ∷ classes (rows_in raw n w)) where
  abbrev rows : List (List ℕ)
  rows = rows_in raw n w

  abbrev class_here : ℕ → ℕ
  class_here = class_of (classes rows)

  class_at : (x : ℕ) → byte array x ≡ class_here x
  class_at x = ap (λ (l : List ℕ). byte l x) are ∙ cons_at (classes rows) x

  count : length rows ≡ n
  count = rows-count raw n w ok

  pub names-first : NamesFirst array
  names-first =
      let named = classes-named w rows (bytes-are-table raw n w ok) in
      record {
        some = omega arith;
        low = λ s l. omega (arith, class_at s, named.low s (omega (arith, count)));
        own = λ s l. ap (byte array) (class_at s) ∙ class_at (class_here s) ∙ named.own s (omega (arith, count)) ∙ sym (class_at s);
      }

  states-are : first_states array ≡ firsts class_here (length rows)
  states-are =
      let left : length array - 1 ≡ length rows = omega (arith, count) in
      ap (firsts (byte array)) left ∙ firsts_of (byte array) class_here class_at (length rows)

  -- a state has the number of its class; past the states there are none
  number_at : (x : ℕ) → byte (class_numbers array) x ≡ class_number class_here x
  number_at x = go (dec_lt x (length array)) ∙ number_of (byte array) class_here class_at x
    where
      go : Dec (x < length array) → byte (class_numbers array) x ≡ class_number (byte array) x
      go (yes l) = get_or-list-below (class_number (byte array)) (length array) x 0 l
      go (no l) =
          let past : length (class_numbers array) ≤ x = omega (arith, length-list-below (class_number (byte array)) (length array)) in
          let none : byte array x ≡ 0 = get_or-eq_default array 0 (omega arith) in
          get_or-eq_default (class_numbers array) 0 past ∙ sym (ap (rank (byte array)) none)

  -- the rows of the first states, with the numbers of the classes, are those of the smallest table
  rows-minimal : Ordered (tabled w rows) n → numbered_rows raw w (class_numbers array) (first_states array) ≡ minimal w rows
  rows-minimal order =
      ap (numbered_rows raw w (class_numbers array)) states-are
      ∙ ext_get_or [] (numbered_rows raw w (class_numbers array) (firsts class_here (length rows))) (ranked class_here rows)
      (length-map (firsts class_here (length rows)) (numbered_row raw w (class_numbers array)) ∙ sym (length-map (firsts class_here (length rows)) (ranked_row class_here rows)))
      (λ i l. row i (omega (arith, length-map (firsts class_here (length rows)) (numbered_row raw w (class_numbers array)))))
      ∙ ranked-minimal w rows (bytes-are-table raw n w ok) (rw count order)
    where
      row : (i : ℕ) → i < length (firsts class_here (length rows)) → get_or (numbered_rows raw w (class_numbers array) (firsts class_here (length rows))) i [] ≡ get_or (ranked class_here rows) i []
      row i l =
          let s = byte (firsts class_here (length rows)) i in
          let r = first_at_law class_here (length rows) i l in
          get_or-map-within (numbered_row raw w (class_numbers array)) (firsts class_here (length rows)) i 0 [] l
          ∙ map_same (byte (class_numbers array)) (class_number class_here) number_at (row_in raw w (s - 1))
          ∙ ap (map (class_number class_here)) (sym (row_is raw n w ok (s - 1) (omega (arith, r.0, r.1, count))))
          ∙ sym (get_or-map-within (ranked_row class_here rows) (firsts class_here (length rows)) i 0 [] l)

  -- what numbering leaves
  pub joined-rows : {numbers : List ℕ} (order : List ℕ) {k : ℕ} → Ordered (tabled w rows) n → (k ≡ length (first_states array)) × (take k order ≡ first_states array)
      → numbers ≡ class_numbers array → JoinedRows raw n w numbers (take k order) k
  joined-rows order in_order (count-is, states) numbers-are =
      let size-numbers = length-list-below (class_number (byte array)) (length array) in
      rw (states, numbers-are) record {
        table = ok;
        long = size-numbers ∙ size;
        states = λ i l. let r = first_at_law (byte array) (length array - 1) i l in (r.0, omega (arith, r.1, ok.some));
        size = sym count-is;
        few = omega (arith, rank-low (byte array) (length array - 1));
        rows = rows-minimal in_order;
      }
