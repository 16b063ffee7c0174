-- What a visit of a state and the whole search leave in the arrays.
use Rattle.std.specs.Prelude.{◌≡◌, Bool, cond, Option, None, Some, zero, ◌&&◌, List, ℕ, suc, min, ◌-◌, ◌*◌, ◌%◌, ◌<◌, ◌≤◌, eqb, leb, ltb, length, get_or}
use Rattle.automaton.specs.Machine.{Machine}
use Rattle.automaton.specs.Explore.{Reached, reached}
use Rattle.automaton.specs.Table.{table}
use Rattle.definitions.specs.Answer.{written}
use Rattle.definitions.specs.Bytes.{byte}
use Rattle.definitions.specs.Book.{concat}
use Rattle.explore.specs.SetImages.{images_machine}
use Rattle.automaton.specs.StateList.{state_list, number_among, after_codes, row_among}

-- each number of the list is a state and stands once: its number is its place
abbrev pub Once : List ℕ → Type 0
Once l = (k : ℕ) → k < length l → number_among l (get_or l k 0) ≡ suc k

-- each number of the list has left a hint at the place that it decides
pub record Hinted (l hints : List ℕ) : Type 0 where
  pub hint : (k : ℕ) → k < length l → 1 ≤ byte hints (get_or l k 0 % 251)

-- a number that counts from 1; none for 0
abbrev pub positive : ℕ → Option ℕ
positive zero = None
positive (suc k) = Some (suc k)

-- the number is that of a place among the first n, and x stands there
abbrev pub is_number : List ℕ → ℕ → ℕ → ℕ → Bool
is_number found n x number = ltb 0 number && (leb number n && eqb (get_or found (number - 1) 0) x)

-- state s of m has been visited, with those in l found before: r are found then, in the array found', and row' has their numbers. Where r is over 127 there
-- are over 127, and nothing is said of the arrays
pub record VisitedState (m : Machine) (s : ℕ) (l found row : List ℕ) (r : ℕ) (found' row' : List ℕ) : Type 0 where
  pub over : 127 < r → 127 < length (after_codes m s m.width l)
  pub count : r ≤ 127 → r ≡ length (after_codes m s m.width l)
  pub array : r ≤ 127 → found' ≡ written (after_codes m s m.width l) found
  pub numbers : r ≤ 127 → row' ≡ written (row_among m (after_codes m s m.width l) s) row

-- the same for the machine of a table of images, from whatever start
abbrev pub VisitedByImages : List ℕ → ℕ → ℕ → ℕ → List ℕ → List ℕ → List ℕ → ℕ → List ℕ → List ℕ → Type 0
VisitedByImages images valuations w s l found row r found' row' = (start : ℕ) → VisitedState (images_machine images valuations w start) s l found row r found' row'

-- how many there are, and 0 for more than `most`
abbrev pub at_most : ℕ → ℕ → ℕ
at_most most n = cond (leb n most) n 0

-- the states that m reaches, in the order of their earliest history: all of them if they are at most 127
unfoldable pub all_reached : Machine → List Reached
all_reached m = reached m 127

-- a buffer of so many bytes has room for the rows of the states that m reaches, and at most for 127 rows
abbrev pub RowsFit : Machine → ℕ → Type 0
RowsFit m room = min 127 (length (all_reached m)) * m.width ≤ room

-- the states that m reaches are in the array found', and the rows of their table, one after another, in raw'; where r is 0 there are over 127, and
-- nothing is said of the arrays
pub record Reaches (m : Machine) (found raw : List ℕ) (r : ℕ) (found' raw' : List ℕ) : Type 0 where
  pub count : r ≡ at_most 127 (length (all_reached m))
  pub array : 0 < r → found' ≡ written (state_list (all_reached m)) found
  pub rows : 0 < r → raw' ≡ written (concat (table m (all_reached m))) raw
