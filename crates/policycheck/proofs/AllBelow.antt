-- What the library's `all` answers over the elements of a list, and over the numbers below a bound.
use Rattle.std.proofs.Common.{◌≡◌, ℕ, zero, suc, ◌<◌, Bool, true, false, ◌∙◌, List, [], ◌∷◌, length, get_or, refl, ap, zero-add, arith}
use Rattle.std.specs.Prelude.{Option, MatchOption}
use Rattle.std.specs.declared.ops.Range.{Range}
use Rattle.std.specs.Fn.{Called}
use Rattle.std.specs.Iterator.{YieldsThen}
use Rattle.std.specs.List.{range_with_len, list_all, FoldsTo}
use Rattle.std.proofs.iter.Yields.{nat_range_steps}
use Rattle.std.proofs.lemmas.Iterator.{YieldsList-from_range}
use Rattle.std.proofs.lemmas.Iterator.Search.{all_from_yields_List}
use Rattle.std.proofs.lemmas.List.FromFn.{length-range_with_len, get_or-range_with_len}
use denote.Param.Members.{Mut}
use Rattle.automaton.specs.Below.{all_below}
use Rattle.automaton.proofs.Below.{all_below_law, all-below_at, same_truth, and-true}
use Rattle.automaton.proofs.Congruence.{all-below-same}
use Rattle.definitions.proofs.Tests.{both_true}

module _ (test : ℕ → Bool) where
  every : (xs : List ℕ) → ((i : ℕ) → i < length xs → test (get_or xs i 0) ≡ true) → list_all test xs ≡ true
  every [] h = refl
  every (x ∷ xs) h = both_true (h 0 (omega arith)) (every xs (λ i l. h (suc i) (omega arith)))

  each : (xs : List ℕ) → list_all test xs ≡ true → (i : ℕ) → i < length xs → test (get_or xs i 0) ≡ true
  each [] e i l = absurd (omega arith)
  each (x ∷ xs) e zero l = (and-true (test x) (list_all test xs) e).0
  each (x ∷ xs) e (suc i) l = each xs (and-true (test x) (list_all test xs) e).1 i (omega arith)

  pub all_below-list : (xs : List ℕ) → list_all test xs ≡ all_below (length xs) (λ i. test (get_or xs i 0))
  all_below-list xs =
      same_truth _ _ (λ e. all_below_law (λ i. test (get_or xs i 0)) (length xs) (each xs e)) (λ e. every xs (all-below_at (λ i. test (get_or xs i 0)) (length xs) e))

  numbers : (n : ℕ) → list_all test (range_with_len 0 n) ≡ all_below n test
  numbers n =
      let here = λ (i : ℕ). test (get_or (range_with_len 0 n) i 0) in
      all_below-list (range_with_len 0 n) ∙ ap (λ (k : ℕ). all_below k here) (length-range_with_len 0 n)
      ∙ all-below-same here test n (λ i l. ap test (get_or-range_with_len 0 n i 0 l ∙ zero-add i))

  -- `(0..m).all(..)`, where m is n and the closure computes the test
  pub all_below-range : {F : Type 0} {g : Mut F (ℕ × Unit {0}) Bool} {u : Range ℕ} {f : F} {r : Bool} {m : ℕ} (n : ℕ)
      → ((xs : List ℕ)
      × (o : Option ℕ)
      × (j : F)
      × YieldsThen nat_range_steps (record { start = 0; end = m }) xs o u
      × FoldsTo (λ p x q. Called g p (x, tt) true q) f xs j
      × MatchOption o (r ≡ true) (λ x. (r ≡ false) × ((h : F) × Called g j (x, tt) false h)))
      → m ≡ n
      → ((x : ℕ) (b : Bool) (q : F) → Called g f (x, tt) b q → (q ≡ f) × (b ≡ test x))
      → r ≡ all_below n test
  all_below-range {u = u} {f = f} {r = r} {m = m} n ran e computes =
      all_from_yields_List test u f r ran (YieldsList-from_range 0 m n refl (omega arith)) computes ∙ numbers n
