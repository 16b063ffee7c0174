-- Classes numbered by their first states: where the states of a table are in order, the rows of the first states, with the numbers of the classes for
-- entries, are its smallest table. It is tidy and has the same histories, and there is one such table.
use mathlib.Core.Path.{◌≡◌, refl, sym, ap, ◌∙◌, subst}
use mathlib.Core.Logic.{◌⊎◌, inl, inr}
use mathlib.Core.List.{List, [], ◌∷◌, ◌++◌, map}
use Prim.Native.Nat.{ℕ, zero, suc, ◌-◌, ◌≤◌, ◌<◌}
use native.Mathlib.Omega.{arith}
use native.Mathlib.Decide.{dec_lt, ℕ_discrete}
use lib.ListN.{length, get_or, length-map, length-append, get_or-map, get_or-append}
use lib.Seq.{get_or_at}
use borrow.Author.Tests.{eq-eqb, ne_eqb}
use Rattle.automaton.specs.Machine.{Machine, step, after, is_state, possible_from, SameHistories, Alike}
use Rattle.automaton.specs.Ordered.{Before, Ordered}
use Rattle.automaton.specs.Table.{entry_in, tabled}
use Rattle.automaton.specs.Join.{class_of, classes, joined, minimal}
use Rattle.automaton.specs.Ranks.{firsts, rank, class_number, ranked_row, ranked}
use Rattle.automaton.proofs.Order.{tri}
use Rattle.automaton.proofs.Below.{below_suc}
use Rattle.automaton.proofs.Machine.{is_state_law, after-map_on}
use Rattle.automaton.proofs.WellFormed.{IsTable, get_or-map-within, entry-beyond, step-entry, step-inside}
use Rattle.automaton.proofs.Joined.{IsClass, joined-by-step, class-is-class, joined-step-class, joined-after-class, joined_step, joined-start, joined-possible, joined-distinct}
use Rattle.automaton.proofs.StableClasses.{classes-named}
use Rattle.automaton.proofs.Tidy.{TidyRows, tidy-rows_unique}
use Rattle.automaton.proofs.Minimal.{minimal-tidy-table}

-- ---- ranks, whatever the classes
-- a is a first state up to n, and k classes begin before it
abbrev FirstAt : (ℕ → ℕ) → ℕ → ℕ → ℕ → Type 0
FirstAt class n k a = (1 ≤ a) × (a ≤ n) × (class a ≡ a) × (rank class a ≡ suc k)

module _ (class : ℕ → ℕ) where
  pub firsts_more : (n : ℕ) → class (suc n) ≡ suc n → firsts class (suc n) ≡ firsts class n ++ (suc n ∷ [])
  firsts_more n e = rw (eq-eqb (class (suc n)) (suc n) e)

  pub firsts_same : (n : ℕ) → (class (suc n) ≡ suc n → ⊥) → firsts class (suc n) ≡ firsts class n
  firsts_same n d = rw (ne_eqb (class (suc n)) (suc n) d)

  pub rank_more : (n : ℕ) → class (suc n) ≡ suc n → rank class (suc n) ≡ suc (rank class n)
  rank_more n e = omega (arith, ap length (firsts_more n e), length-append (firsts class n) (suc n ∷ []))

  rank_grows : (n : ℕ) → (rank class n ≤ rank class (suc n)) × (rank class (suc n) ≤ suc (rank class n))
  rank_grows n = go (ℕ_discrete (class (suc n)) (suc n))
    where
      go : Dec (class (suc n) ≡ suc n) → (rank class n ≤ rank class (suc n)) × (rank class (suc n) ≤ suc (rank class n))
      go (yes e) = let more = rank_more n e in (omega arith, omega arith)
      go (no d) = let same = ap length (firsts_same n d) in (omega arith, omega arith)

  pub rank_le : (s n : ℕ) → s ≤ n → rank class s ≤ rank class n
  rank_le s zero l = let e : s ≡ 0 = omega arith in omega (arith, ap (rank class) e)
  rank_le s (suc n) l = go (below_suc s (suc n) (omega arith)) (rank_le s n)
    where
      go : (s < suc n) ⊎ (s ≡ suc n) → (s ≤ n → rank class s ≤ rank class n) → rank class s ≤ rank class (suc n)
      go (inl b) ih = omega (arith, ih (omega arith), rank_grows n)
      go (inr e) ih = omega (arith, ap (rank class) e)

  rank_lt : (s t : ℕ) → s < t → class t ≡ t → rank class s < rank class t
  rank_lt s zero l e = absurd (omega arith)
  rank_lt s (suc t) l e = omega (arith, rank_le s t (omega arith), rank_more t e)

  pub rank-low : (n : ℕ) → rank class n ≤ n
  rank-low zero = omega arith
  rank-low (suc n) = omega (arith, rank-low n, rank_grows n)

  pub first_at_law : (n k : ℕ) → k < rank class n → FirstAt class n k (get_or (firsts class n) k 0)
  first_at_law zero k l = absurd (omega arith)
  first_at_law (suc n) k l = go (ℕ_discrete (class (suc n)) (suc n)) (first_at_law n k)
    where
      up : (a : ℕ) → FirstAt class n k a → FirstAt class (suc n) k a
      up a r = (r.0, omega (arith, r.1), r.2, r.3)

      last : class (suc n) ≡ suc n → (k < rank class n → FirstAt class n k (get_or (firsts class n) k 0)) → (k < rank class n) ⊎ (k ≡ rank class n)
          → FirstAt class (suc n) k (get_or (firsts class n ++ (suc n ∷ [])) k 0)
      last e ih (inl b) = subst (FirstAt class (suc n) k) (sym (get_or-append (firsts class n) (suc n ∷ []) 0 k b)) (up (get_or (firsts class n) k 0) (ih b))
      last e ih (inr q) =
          subst (FirstAt class (suc n) k) (sym (get_or_at (firsts class n) (suc n) [] 0 k (sym q))) (omega arith, omega arith, e, omega (arith, rank_more n e))

      go : Dec (class (suc n) ≡ suc n) → (k < rank class n → FirstAt class n k (get_or (firsts class n) k 0))
          → FirstAt class (suc n) k (get_or (firsts class (suc n)) k 0)
      go (yes e) ih =
          subst (λ (l : List ℕ). FirstAt class (suc n) k (get_or l k 0)) (sym (firsts_more n e)) (last e ih (below_suc k (rank class n) (omega (arith, rank_more n e))))
      go (no d) ih =
          subst (λ (l : List ℕ). FirstAt class (suc n) k (get_or l k 0)) (sym (firsts_same n d))
          (up (get_or (firsts class n) k 0) (ih (omega (arith, ap length (firsts_same n d)))))

  -- a first state is fixed by its rank
  rank_injective : (a b : ℕ) → class a ≡ a → class b ≡ b → rank class a ≡ rank class b → a ≡ b
  rank_injective a b ea eb e = go (tri a b)
    where
      go : (a < b) ⊎ ((a ≡ b) ⊎ (b < a)) → a ≡ b
      go (inl l) = absurd (omega (arith, rank_lt a b l eb))
      go (inr (inl q)) = q
      go (inr (inr l)) = absurd (omega (arith, rank_lt b a l ea))

-- the same classes have the same first states, and their states the same numbers
module _ (f g : ℕ → ℕ) (same : (x : ℕ) → f x ≡ g x) where
  pub firsts_of : (n : ℕ) → firsts f n ≡ firsts g n
  firsts_of zero = refl
  firsts_of (suc n) = rw (same (suc n), firsts_of n)

  pub number_of : (x : ℕ) → class_number f x ≡ class_number g x
  number_of x = rw (same x) (ap length (firsts_of (g x)))

-- ---- the classes of a table's alike states
module _ (w : ℕ) (rows : List (List ℕ)) (ok : IsTable w rows) (order : Ordered (tabled w rows) (length rows)) where
  abbrev n : ℕ
  n = length rows

  abbrev class : ℕ → ℕ
  class = class_of (classes rows)

  -- the table, with its classes for states, and with their numbers
  abbrev M : Machine
  M = tabled w rows

  abbrev J : Machine
  J = joined w rows

  abbrev R : Machine
  R = tabled w (ranked class rows)

  ranked-length : length (ranked class rows) ≡ rank class n
  ranked-length = length-map (firsts class n) (ranked_row class rows)

  -- the class with a number
  record ClassAt (s : ℕ) : Type 0 where
    state : ℕ
    is_class : IsClass rows state
    number : rank class state ≡ s

  class-with : (s : ℕ) → s ≤ rank class n → ClassAt s
  class-with zero l = record { state = 0; is_class = (omega arith, refl); number = refl }
  class-with (suc k) l = let r = first_at_law class n k l in record { state = get_or (firsts class n) k 0; is_class = (r.1, r.2); number = r.3 }

  -- the row of a class
  row_of-class : (a : ℕ) → IsClass rows (suc a) → get_or (ranked class rows) (rank class (suc a) - 1) [] ≡ map (class_number class) (get_or rows a [])
  row_of-class a is =
      let k = rank class (suc a) - 1 in
      let some : 1 ≤ rank class (suc a) = omega (arith, rank_lt class 0 (suc a) (omega arith) is.1) in
      let inside : k < rank class n = omega (arith, rank_le class (suc a) n is.0) in
      let r = first_at_law class n k inside in
      let here : suc a - 1 ≡ a = omega arith in
      let same : get_or (firsts class n) k 0 ≡ suc a = rank_injective class (get_or (firsts class n) k 0) (suc a) r.2 is.1 (omega (arith, r.3)) in
      get_or-map-within (ranked_row class rows) (firsts class n) k 0 [] inside ∙ ap (ranked_row class rows) same ∙ ap (λ (j : ℕ). map (class_number class) (get_or rows j [])) here

  entry_of-class : (a c : ℕ) → IsClass rows a → entry_in (ranked class rows) (rank class a) c ≡ rank class (step J a c)
  entry_of-class zero c is = refl
  entry_of-class (suc a) c is = go (rank class (suc a)) refl
    where
      there : step J (suc a) c ≡ class (entry_in rows (suc a) c)
      there = joined-by-step (classes rows) w rows (suc a) c ∙ ap class (step-entry w rows ok (suc a) c)

      go : (s : ℕ) → rank class (suc a) ≡ s → entry_in (ranked class rows) s c ≡ rank class (step J (suc a) c)
      go zero e = absurd (omega (arith, rank_lt class 0 (suc a) (omega arith) is.1))
      go (suc k) e =
          let at : rank class (suc a) - 1 ≡ k = omega arith in
          ap (λ (row : List ℕ). get_or row c 0) (ap (λ (k : ℕ). get_or (ranked class rows) k []) (sym at) ∙ row_of-class a is)
          ∙ get_or-map (class_number class) (get_or rows a []) c 0 ∙ ap (rank class) (sym there)

  ranked-is-table : IsTable w (ranked class rows)
  ranked-is-table = record { some = some; wide = wide; inside = inside }
    where
      some : 1 ≤ length (ranked class rows)
      some = omega (arith, ranked-length, rank_lt class 0 1 (omega arith) (joined-start w rows ok), rank_le class 1 n ok.some)

      wide : (k : ℕ) → k < length (ranked class rows) → length (get_or (ranked class rows) k []) ≡ w
      wide k l =
          let b : k < rank class n = omega (arith, ranked-length) in
          let r = first_at_law class n k b in
          let a = get_or (firsts class n) k 0 in
          ap length (get_or-map-within (ranked_row class rows) (firsts class n) k 0 [] b)
          ∙ length-map (get_or rows (a - 1) []) (class_number class)
          ∙ ok.wide (a - 1) (omega (arith, r.0, r.1))

      inside : (s c : ℕ) → entry_in (ranked class rows) s c ≤ length (ranked class rows)
      inside s c = go (dec_lt (length (ranked class rows)) s)
        where
          go : Dec (length (ranked class rows) < s) → entry_in (ranked class rows) s c ≤ length (ranked class rows)
          go (yes l) = omega (arith, entry-beyond (ranked class rows) s c l)
          go (no l) =
              let a = class-with s (omega (arith, ranked-length)) in
              let is = joined-step-class w rows ok a.state c in
              omega (arith, ap (λ (s : ℕ). entry_in (ranked class rows) s c) (sym a.number), entry_of-class a.state c a.is_class, ranked-length, rank_le class (step J a.state c) n is.0)

  -- a step of the ranked table goes with a step of the classes
  ranked-step : (a c : ℕ) → IsClass rows a → rank class (step J a c) ≡ step R (rank class a) c
  ranked-step a c is = sym (step-entry w (ranked class rows) ranked-is-table (rank class a) c ∙ entry_of-class a c is)

  ranked-state : (a : ℕ) → IsClass rows a → is_state (rank class a) ≡ is_state a
  ranked-state zero is = refl
  ranked-state (suc a) is = is_state_law (rank class (suc a)) (omega (arith, rank_lt class 0 (suc a) (omega arith) is.1))

  ranked_alike : (a : ℕ) → IsClass rows a → Alike R (rank class a) J a
  ranked_alike a is h =
      ap is_state (sym (after-map_on J R (rank class) (IsClass rows) (λ x c p. joined-step-class w rows ok x c) ranked-step a is h))
      ∙ ranked-state (after J a h) (joined-after-class w rows ok a h is)

  -- where an entry of the table leads to a first state, the row of the class has the same entry
  entry_kept : (p d f : ℕ) → p ≤ n → class f ≡ f → step M p d ≡ f → step R (class_number class p) d ≡ rank class f
  entry_kept p d f l own e =
      sym (ranked-step (class p) d (class-is-class w rows ok p l)) ∙ ap (rank class) (sym (joined_step w rows ok p d l) ∙ ap class e ∙ own)

  ranked-ordered : Ordered R (length (ranked class rows))
  ranked-ordered = record { some = ranked-is-table.some; inside = λ s c l. step-inside w (ranked class rows) ranked-is-table s c; met = met; in_order = in_order }
    where
      above : (a t : ℕ) → rank class a ≡ t → 1 < t → 1 < a
      above a t e l = omega (arith, rank-low class a)

      before : (p f : ℕ) → p ≤ n → p < f → class f ≡ f → class_number class p < rank class f
      before p f l b own = rank_lt class (class p) f (omega (arith, low p l)) own
        where
          low : (p : ℕ) → p ≤ n → class p ≤ p
          low p l = (classes-named w rows ok).low p l

      met : (t : ℕ) → 1 < t → t ≤ length (ranked class rows) → (p : ℕ) × (d : ℕ) × (p < t) × (step R p d ≡ t)
      met t b l =
          let f = class-with t (omega (arith, ranked-length)) in
          let is = f.is_class in
          let r = order.met f.state (above f.state t f.number b) is.0 in
          let inside : r.0 ≤ n = omega (arith, r.2, is.0) in (
            class_number class r.0,
            r.1,
            omega (arith, before r.0 f.state inside r.2 is.1, f.number),
            entry_kept r.0 r.1 f.state inside is.1 r.3 ∙ f.number,
          )

      in_order : (s c t : ℕ) → s ≤ length (ranked class rows) → 1 < t → t < step R s c → (p : ℕ) × (d : ℕ) × Before p d s c × (step R p d ≡ t)
      in_order s c t l b u = (class_number class r.0, r.1, place r.2, entry_kept r.0 r.1 f.state (within r.2) f.is_class.1 r.3 ∙ f.number)
        where
          a : ClassAt s
          a = class-with s (omega (arith, ranked-length))

          top : step R s c ≤ rank class n
          top = omega (arith, ranked-length, step-inside w (ranked class rows) ranked-is-table s c)

          f : ClassAt t
          f = class-with t (omega (arith, top))

          -- the entry of the table leads past f
          there : rank class f.state < rank class (step J a.state c)
          there = omega (arith, f.number, ranked-step a.state c a.is_class, ap (λ (s : ℕ). step R s c) a.number)

          past : f.state < step M a.state c
          past = go (dec_lt f.state (step M a.state c))
            where
              go : Dec (f.state < step M a.state c) → f.state < step M a.state c
              go (yes p) = p
              go (no p) =
                  let low = (classes-named w rows ok).low (step M a.state c) (step-inside w rows ok a.state c) in
                  absurd (omega (arith, there, ap (rank class) (joined-by-step (classes rows) w rows a.state c), rank_le class (class (step M a.state c)) f.state (omega arith)))

          r : (p : ℕ) × (d : ℕ) × Before p d a.state c × (step M p d ≡ f.state)
          r = order.in_order a.state c f.state a.is_class.0 (above f.state t f.number b) past

          within : Before r.0 r.1 a.state c → r.0 ≤ n
          within (inl q) = omega (arith, a.is_class.0)
          within (inr q) = omega (arith, a.is_class.0)

          place : Before r.0 r.1 a.state c → Before (class_number class r.0) r.1 s c
          place (inl q) = inl (omega (arith, before r.0 a.state (omega (arith, a.is_class.0)) q a.is_class.1, a.number))
          place (inr q) = inr (ap (class_number class) q.0 ∙ ap (rank class) a.is_class.1 ∙ a.number, q.1)

  ranked-tidy : TidyRows w (ranked class rows)
  ranked-tidy = record { ordered = ranked-ordered; distinct = distinct }
    where
      distinct : (x y : ℕ) → x ≤ length (ranked class rows) → y ≤ length (ranked class rows) → Alike R x R y → x ≡ y
      distinct x y lx ly alike =
          let a = class-with x (omega (arith, ranked-length)) in
          let b = class-with y (omega (arith, ranked-length)) in
          let same : Alike R (rank class a.state) R (rank class b.state) = rw (a.number, b.number) alike in
          let one : a.state ≡ b.state = joined-distinct w rows ok a.state b.state a.is_class b.is_class
          (λ h. sym (ranked_alike a.state a.is_class h) ∙ same h ∙ ranked_alike b.state b.is_class h) in
          sym a.number ∙ ap (rank class) one ∙ b.number

  ranked-histories : SameHistories R M
  ranked-histories h =
      let start : rank class 1 ≡ 1 = omega (arith, rank_lt class 0 1 (omega arith) (joined-start w rows ok), rank-low class 1) in
      ap (λ (s : ℕ). possible_from R s h) (sym start) ∙ ranked_alike 1 (ok.some, joined-start w rows ok) h ∙ joined-possible w rows ok h

  -- the rows of the first states, with the numbers of the classes, are the smallest table
  pub ranked-minimal : ranked class rows ≡ minimal w rows
  ranked-minimal =
      let small = minimal-tidy-table w rows ok in
      tidy-rows_unique w (ranked class rows) (minimal w rows) ranked-is-table small.is_table ranked-tidy small.tidy (λ h. ranked-histories h ∙ sym (small.histories h))
