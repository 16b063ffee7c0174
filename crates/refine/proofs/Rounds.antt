-- One round of refinement, with the classes in arrays: the first states of new classes inside a state's present class are all that need comparing.
use mathlib.Core.Path.{◌≡◌, refl, sym, ap, ◌∙◌}
use mathlib.Core.Bool.{true, false, true≢false}
use mathlib.Core.List.{List, [], ◌∷◌, map}
use Prim.Native.Nat.{ℕ, zero, suc, ◌+◌, ◌-◌, ◌*◌, ◌<◌, ◌≤◌}
use native.Mathlib.Nat.{ℕ_set}
use native.Mathlib.Omega.{arith}
use native.Mathlib.Decide.{dec_lt}
use lib.ListN.{length, get_or, take, drop, length-map}
use lib.Seq.{length-take-le, get_or-take, ext_get_or}
use borrow.Author.Tests.{eq-eqb}
use Rattle.std.proofs.Math.Logic.{∥∥₁_elim}
use Rattle.std.specs.Coded.{×_prop, le_prop}
use Rattle.automaton.specs.Below.{same_list}
use Rattle.automaton.specs.Join.{class_of, class_rows, first_like, refine, classes_after}
use Rattle.automaton.proofs.Below.{and-true, same-list-refl, same-list-true, same-list-yes, same-list_no, place-hit}
use Rattle.automaton.proofs.WellFormed.{IsTable, get_or-map-within}
use Rattle.automaton.proofs.AlikeWithin.{NamedByFirst, class_positive, classes-after-named, classes_after_law}
use Rattle.definitions.specs.Bytes.{byte}
use Rattle.definitions.specs.Situation.{empty_set}
use Rattle.definitions.specs.Rows.{row_in, looked_up}
use Rattle.refine.specs.Classes.{rows_with}
use Rattle.refine.specs.Rounds.{InRounds, next_round, is_first, is_first_alike}
use Rattle.refine.specs.StateWords.{with_moved}
use Rattle.definitions.proofs.TableBytes.{row_is, rows-count, bytes-are-table, cons_at}
use Rattle.automaton.proofs.Congruence.{map_same}

-- ---- two rows of classes, compared entry by entry
module _ (f : ℕ → ℕ) (row other : List ℕ) (long : length row ≡ length other) where
  classes_at : (xs : List ℕ) (c : ℕ) → c < length xs → get_or (map f xs) c 0 ≡ f (get_or xs c 0)
  classes_at xs c l = get_or-map-within f xs c 0 0 l

  pub classes-equal : ((c : ℕ) → c < length row → f (get_or row c 0) ≡ f (get_or other c 0)) → true ≡ same_list (map f row) (map f other)
  classes-equal same =
      same-list-yes (map f row) (map f other)
      (ext_get_or 0 (map f row) (map f other) (length-map row f ∙ long ∙ sym (length-map other f))
      (λ c b. let l : c < length row = omega (arith, length-map row f) in classes_at row c l ∙ same c l ∙ sym (classes_at other c (omega arith))))

  pub classes-differ : (c : ℕ) → c < length row → (f (get_or row c 0) ≡ f (get_or other c 0) → ⊥) → false ≡ same_list (map f row) (map f other)
  classes-differ c l differ =
      same-list_no (map f row) (map f other)
      (λ equal. differ (sym (classes_at row c l) ∙ ap (λ (xs : List ℕ). get_or xs c 0) equal ∙ classes_at other c (omega arith)))

module _ (f : ℕ → ℕ) (row other : List ℕ) (w : ℕ) (long : w ≤ length row) (long-other : w ≤ length other) where
  entry_at : (xs : List ℕ) (c : ℕ) → w ≤ length xs → c < w → get_or (map f (take w xs)) c 0 ≡ f (get_or xs c 0)
  entry_at xs c l b =
      get_or-map-within f (take w xs) c 0 0 (omega (arith, length-take-le w xs l)) ∙ ap f (get_or-take w xs c 0 b)

  row-length : (xs : List ℕ) → w ≤ length xs → length (map f (take w xs)) ≡ w
  row-length xs l = length-map (take w xs) f ∙ length-take-le w xs l

  pub rows-equal : ((c : ℕ) → c < w → f (get_or row c 0) ≡ f (get_or other c 0)) → map f (take w row) ≡ map f (take w other)
  rows-equal same =
      ext_get_or 0 (map f (take w row)) (map f (take w other)) (row-length row long ∙ sym (row-length other long-other))
      (λ c b. let l : c < w = omega (arith, row-length row long) in entry_at row c long l ∙ same c l ∙ sym (entry_at other c long-other l))

  pub entries-equal : map f (take w row) ≡ map f (take w other) → (c : ℕ) → c < w → f (get_or row c 0) ≡ f (get_or other c 0)
  entries-equal equal c l = sym (entry_at row c long l) ∙ ap (λ (xs : List ℕ). get_or xs c 0) equal ∙ entry_at other c long-other l

-- ---- the states of a table, from 1 on, with their classes in an array
module _ {raw : List ℕ} {w : ℕ} {classes : List ℕ} (now : InRounds raw w classes) where
  -- what the array is a list of, and what a round makes of it
  abbrev n : ℕ
  n = length classes - 1

  abbrev rows : List (List ℕ)
  rows = rows_with raw w classes

  abbrev cs : List ℕ
  cs = classes_after rows now.rounds

  abbrev fine : List ℕ
  fine = classes_after rows (suc now.rounds)

  pub is_table_law : IsTable w rows
  is_table_law = bytes-are-table raw n w now.table

  class_at : (x : ℕ) → byte classes x ≡ class_of cs x
  class_at x = ap (λ (l : List ℕ). byte l x) now.are ∙ cons_at cs x

  pub next-is : next_round raw w classes ≡ 0 ∷ fine
  next-is = ap (λ (l : List ℕ). 0 ∷ refine rows (drop 1 l)) now.are

  new_class_at : (x : ℕ) → byte (next_round raw w classes) x ≡ class_of fine x
  new_class_at x = ap (λ (l : List ℕ). byte l x) next-is ∙ cons_at fine x

  pub first_unmoved : with_moved classes (next_round raw w classes) 0 empty_set ≡ empty_set
  first_unmoved = rw (eq-eqb (byte classes 0) 0 (class_at 0))

  pub next_length_law : length (next_round raw w classes) ≡ length classes
  next_length_law =
      let named = classes-after-named w rows is_table_law (suc now.rounds) in
      omega (arith, ap length next-is, named.long, rows-count raw n w now.table, now.table.some)

  -- the rows of classes
  row-classes : (i : ℕ) → i < n → looked_up classes w (drop (i * w) raw) ≡ get_or (class_rows cs rows) i []
  row-classes i l =
      map_same (byte classes) (class_of cs) class_at (row_in raw w i)
      ∙ sym (get_or-map-within (map (class_of cs)) rows i [] [] (omega (arith, rows-count raw n w now.table)) ∙ ap (map (class_of cs)) (row_is raw n w now.table i l))

  class-is-first : (s : ℕ) → 1 ≤ s → s ≤ n → class_of fine s ≡ first_like (class_rows cs rows) (get_or (class_rows cs rows) (s - 1) [])
  class-is-first zero p l = absurd (omega arith)
  class-is-first (suc i) p l =
      let e : suc i - 1 ≡ i = omega arith in
      let long : length (class_rows cs rows) ≡ n = length-map rows (map (class_of cs)) ∙ rows-count raw n w now.table in
      rw e (get_or-map-within (first_like (class_rows cs rows)) (class_rows cs rows) i [] 0 (omega arith))

  -- a round divides classes
  divides : (x y : ℕ) → x ≤ n → y ≤ n → class_of fine x ≡ class_of fine y → class_of cs x ≡ class_of cs y
  divides x y lx ly e =
      let count = rows-count raw n w now.table in
      let within = classes_after_law w rows is_table_law in
      let ix : x ≤ length rows = omega arith in
      let iy : y ≤ length rows = omega arith in
      (within now.rounds x y ix iy).1 (λ h l. (within (suc now.rounds) x y ix iy).0 e h (omega arith))

  -- state s, its new class, and a state t that is not after the class
  module _ (s : ℕ) (p : 1 ≤ s) (l : s < length classes) where
    count : length rows ≡ n
    count = rows-count raw n w now.table

    named : NamedByFirst (length rows) fine
    named = classes-after-named w rows is_table_law (suc now.rounds)

    old-named : NamedByFirst (length rows) cs
    old-named = classes-after-named w rows is_table_law now.rounds

    abbrev f : ℕ
    f = class_of fine s

    low : f ≤ s
    low = named.low s (omega (arith, count))

    positive : 1 ≤ f
    positive = class_positive (length rows) fine named s p (omega (arith, count))

    own : class_of fine f ≡ f
    own = named.own s (omega (arith, count))

    together : class_of cs f ≡ class_of cs s
    together = divides f s (omega (arith, low)) (omega arith) own

    -- its rows of classes are equal
    equal : get_or (class_rows cs rows) (f - 1) [] ≡ get_or (class_rows cs rows) (s - 1) []
    equal = go f refl
      where
        row : List ℕ
        row = get_or (class_rows cs rows) (s - 1) []

        go : (k : ℕ) → f ≡ k → get_or (class_rows cs rows) (k - 1) [] ≡ get_or (class_rows cs rows) (s - 1) []
        go zero e = absurd (omega (arith, positive))
        go (suc j) e =
            let one : suc j - 1 ≡ j = omega arith in
            let hit = place-hit (same_list (get_or (class_rows cs rows) (s - 1) [])) [] (class_rows cs rows) j (sym (class-is-first s p (omega arith)) ∙ e) in
            rw one (sym (same-list-true (get_or (class_rows cs rows) (s - 1) []) (get_or (class_rows cs rows) j []) hit.1))

    row_of : (x : ℕ) → 1 ≤ x → x ≤ n → looked_up classes w (drop ((x - 1) * w) raw) ≡ get_or (class_rows cs rows) (x - 1) []
    row_of x px lx = row-classes (x - 1) (omega arith)

    -- a state that leads to the same classes has the same new class
    same_class : (t : ℕ) → 1 ≤ t → t ≤ n → looked_up classes w (drop ((t - 1) * w) raw) ≡ looked_up classes w (drop ((s - 1) * w) raw) → class_of fine t ≡ f
    same_class t pt lt same =
        class-is-first t pt lt ∙ ap (first_like (class_rows cs rows)) (sym (row_of t pt lt) ∙ same ∙ row_of s p (omega arith))
        ∙ sym (class-is-first s p (omega arith))

    -- the first state of the new class leads to the same classes
    pub class-row : looked_up classes w (drop ((byte (next_round raw w classes) s - 1) * w) raw) ≡ looked_up classes w (drop ((s - 1) * w) raw)
    class-row = rw (new_class_at s) (row_of f positive (omega (arith, low)) ∙ equal ∙ sym (row_of s p (omega arith)))

    -- the search for the class begins at or before it
    pub search-begins : (1 ≤ byte classes s) × (byte classes s ≤ byte (next_round raw w classes) s)
    search-begins =
        let old = class_at s in
        let new = new_class_at s in (
          omega (arith, class_positive (length rows) cs old-named s p (omega (arith, count))),
          omega (arith, old-named.low f (omega (arith, count, low)), together),
        )

    pub class-bounds : (1 ≤ byte classes s) × (byte classes s ≤ s)
    class-bounds = (search-begins.0, omega (arith, class_at s, old-named.low s (omega (arith, count))))

    -- a state keeps its class if the first state of the class leads to the same classes
    pub keeps-class : looked_up classes w (drop ((byte classes s - 1) * w) raw) ≡ looked_up classes w (drop ((s - 1) * w) raw)
        → byte (next_round raw w classes) s ≡ byte classes s
    keeps-class same =
        let b = class-bounds in
        let k = search-begins in
        let class = same_class (byte classes s) b.0 (omega arith) same in
        omega (arith, new_class_at s, named.low (byte classes s) (omega (arith, count)))

    pub class_low : byte (next_round raw w classes) s ≤ s
    class_low = omega (arith, new_class_at s, low)

    pub search-ends : s ≤ byte (next_round raw w classes) s → s ≡ byte (next_round raw w classes) s
    search-ends b = omega (arith, new_class_at s, low)

    module _ (next : List ℕ) (t : ℕ) (pt : 1 ≤ t) (b : t < s) (not_after : t ≤ byte (next_round raw w classes) s) where
      pub search-found : is_first_alike raw w classes next s t ≡ true → t ≡ byte (next_round raw w classes) s
      search-found e =
          let both = and-true (is_first classes next s t) _ e in
          let class = same_class t pt (omega arith) (same-list-true _ _ both.1) in
          omega (arith, named.low t (omega (arith, count)), new_class_at s)

      pub search-passed : take s next ≡ take s (next_round raw w classes) → is_first_alike raw w classes next s t ≡ false → t + 1 ≤ byte (next_round raw w classes) s
      search-passed before e = go (dec_lt t (byte (next_round raw w classes) s))
        where
          alike : t ≡ f → is_first_alike raw w classes next s t ≡ true
          alike is =
              let old : byte classes t ≡ byte classes s = class_at t ∙ ap (class_of cs) is ∙ together ∙ sym (class_at s) in
              let new : byte next t ≡ t =
              sym (get_or-take s next t 0 b) ∙ ap (λ (l : List ℕ). get_or l t 0) before ∙ get_or-take s (next_round raw w classes) t 0 b
              ∙ new_class_at t ∙ ap (class_of fine) is ∙ own ∙ sym is in
              let same : looked_up classes w (drop ((t - 1) * w) raw) ≡ looked_up classes w (drop ((s - 1) * w) raw) =
              row_of t pt (omega arith) ∙ ap (λ (x : ℕ). get_or (class_rows cs rows) (x - 1) []) is ∙ equal ∙ sym (row_of s p (omega arith)) in
              rw (eq-eqb (byte classes t) (byte classes s) old, eq-eqb (byte next t) t new, same)
              (same-list-refl (looked_up classes w (drop ((s - 1) * w) raw)))

          go : Dec (t < byte (next_round raw w classes) s) → t + 1 ≤ byte (next_round raw w classes) s
          go (yes d) = omega arith
          go (no d) = absurd (true≢false (sym (alike (omega (arith, new_class_at s))) ∙ e))

-- ---- the same after some number of rounds, which is not known
module _ {raw : List ℕ} {w : ℕ} {classes : List ℕ} (some : ∥ InRounds raw w classes ∥₁) where
  pub some-few : length classes ≤ 128
  some-few = ∥∥₁_elim some le_prop (λ now. now.few)

  pub some-length : length (next_round raw w classes) ≡ length classes
  some-length = ∥∥₁_elim some (ℕ_set _ _) (λ now. next_length_law now)

  pub some-unmoved : with_moved classes (next_round raw w classes) 0 empty_set ≡ empty_set
  some-unmoved = ∥∥₁_elim some (ℕ_set _ _) (λ now. first_unmoved now)

  module _ (s : ℕ) (p : 1 ≤ s) (l : s < length classes) where
    pub some-begins : (1 ≤ byte classes s) × (byte classes s ≤ byte (next_round raw w classes) s)
    some-begins = ∥∥₁_elim some (×_prop le_prop le_prop) (λ now. search-begins now s p l)

    pub some-low : byte (next_round raw w classes) s ≤ s
    some-low = ∥∥₁_elim some le_prop (λ now. class_low now s p l)

    module _ (next : List ℕ) (known : take s next ≡ take s (next_round raw w classes)) (t : ℕ) (pt : 1 ≤ t) (b : t < s) (not_after : t ≤ byte (next_round raw w classes) s) where
      pub some-found : is_first_alike raw w classes next s t ≡ true → t ≡ byte (next_round raw w classes) s
      some-found e = ∥∥₁_elim some (ℕ_set _ _) (λ now. search-found now s p l next t pt b not_after e)

      pub some-passed : is_first_alike raw w classes next s t ≡ false → t + 1 ≤ byte (next_round raw w classes) s
      some-passed e = ∥∥₁_elim some le_prop (λ now. search-passed now s p l next t pt b not_after known e)
