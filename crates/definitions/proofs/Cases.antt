-- Every case of the table holds: one computation finds no case that fails, and each entry's equation follows.
use mathlib.Core.Path.{◌≡◌, refl, ap, sym, ◌∙◌}
use mathlib.Core.Bool.{Bool, true, false, not, beq, false≢true}
use mathlib.Core.List.{List, [], ◌∷◌}
use mathlib.Core.Option.{Option, none, some}
use Prim.Native.Nat.{ℕ, zero, suc, ◌<◌}
use lib.Dec.{eqb}
use lib.ListN.{length, get_or}
use borrow.Author.Tests.{eqb-true, not-false}
use Rattle.automaton.specs.Below.{same_list, place_of}
use Rattle.automaton.proofs.Below.{and-true, same-list-true, place_none}
use Rattle.definitions.specs.Answer.{Answer, refused, given}
use Rattle.definitions.specs.Refusal.{policy_refusal, situations, book_refusal}
use Rattle.definitions.specs.Build.{book_of, book_rows, build_answer, build_buffer}
use Rattle.definitions.specs.Verdict.{Found, Findings, findings, verdict_answer, verdict_buffers}
use Rattle.definitions.specs.Compare.{comparison, compare_answer, compare_buffer}
use Rattle.definitions.specs.Telling.{Telling, none as untold, accept, reject, both, outcome_of}
use Rattle.definitions.specs.Opened.{open_answer, tell_answer, step_refusal, step_state}
use Rattle.definitions.specs.Shelf.{shelf_text}
use Rattle.definitions.specs.Page.{page, page_answer, page_buffer}
use Rattle.definitions.specs.Way.{way, way_answer, way_buffer}
use Rattle.definitions.specs.Cases.AllCases.{cases}
use Rattle.definitions.specs.Cases.Claim.{Claim, number, says, bytes, rows, found, history, builds, finds, compares, tells, Holds, test, same_rows, same_option, same_answer, same_found, same_findings, same_telling}

abbrev fails : Claim → Bool
fails claim = not (test claim)

-- the number of the first case that fails is 0: none does
none-fails : place_of fails cases ≡ 0
unfolding book_of book_rows situations findings comparison policy_refusal book_refusal build_answer build_buffer verdict_answer verdict_buffers compare_answer compare_buffer open_answer tell_answer step_refusal step_state shelf_text page page_answer page_buffer way way_answer way_buffer
none-fails = refl

-- ---- what passes a test is equal
same_bool_true : (x y : Bool) → beq x y ≡ true → x ≡ y
same_bool_true true true e = refl
same_bool_true true false e = absurd (false≢true e)
same_bool_true false true e = absurd (false≢true e)
same_bool_true false false e = refl

same-rows-true : (xs ys : List (List ℕ)) → same_rows xs ys ≡ true → xs ≡ ys
same-rows-true [] [] e = refl
same-rows-true [] (y ∷ ys) e = absurd (false≢true e)
same-rows-true (x ∷ xs) [] e = absurd (false≢true e)
same-rows-true (x ∷ xs) (y ∷ ys) e =
    let both = and-true (same_list x y) (same_rows xs ys) e in
    let head : x ≡ y = same-list-true x y both.0 in
    let tail : xs ≡ ys = same-rows-true xs ys both.1 in
    cc

module _ {A : Type 0} (same : A → A → Bool) (right : (x y : A) → same x y ≡ true → x ≡ y) where
  same_option-true : (x y : Option A) → same_option same x y ≡ true → x ≡ y
  same_option-true none none e = refl
  same_option-true none (some y) e = absurd (false≢true e)
  same_option-true (some x) none e = absurd (false≢true e)
  same_option-true (some x) (some y) e = ap {B = Option A} some (right x y e)

  same-answer-true : (x y : Answer A) → same_answer same x y ≡ true → x ≡ y
  same-answer-true (refused x) (refused y) e = ap {B = Answer A} refused (eqb-true x y e)
  same-answer-true (refused x) (given y) e = absurd (false≢true e)
  same-answer-true (given x) (refused y) e = absurd (false≢true e)
  same-answer-true (given x) (given y) e = ap {B = Answer A} given (right x y e)

same-found-true : (x y : Found) → same_found x y ≡ true → x ≡ y
same-found-true x y e =
    let both = and-true (eqb x.request y.request) (same_list x.history y.history) e in
    let request : x.request ≡ y.request = eqb-true x.request y.request both.0 in
    let history : x.history ≡ y.history = same-list-true x.history y.history both.1 in
    λ i. record { request = request i; history = history i }

same-findings-true : (x y : Findings) → same_findings x y ≡ true → x ≡ y
same-findings-true x y e =
    let two = and-true _ _ e in
    let one = and-true _ _ two.0 in
    let conflict = same_option-true same_found same-found-true x.conflict y.conflict one.0 in
    let missing = same_option-true same_found same-found-true x.missing y.missing one.1 in
    let blocked = same_option-true same_list same-list-true x.blocked y.blocked two.1 in
    λ i. record { conflict = conflict i; missing = missing i; blocked = blocked i }

-- the telling of an outcome
numbered : ℕ → Telling
numbered zero = untold
numbered (suc zero) = accept
numbered (suc (suc zero)) = reject
numbered (suc (suc (suc n))) = both

numbered-telling : (x : Telling) → numbered (outcome_of x) ≡ x
unfolding numbered
numbered-telling untold = refl
numbered-telling accept = refl
numbered-telling reject = refl
numbered-telling both = refl

same-telling-true : (x y : Telling) → same_telling x y ≡ true → x ≡ y
same-telling-true x y e = sym (numbered-telling x) ∙ ap numbered (eqb-true (outcome_of x) (outcome_of y) e) ∙ numbered-telling y

passed : (claim : Claim) → test claim ≡ true → Holds claim
passed (number x y) e = eqb-true x y e
passed (says x y) e = same_bool_true x y e
passed (bytes x y) e = same-list-true x y e
passed (rows x y) e = same-rows-true x y e
passed (found x y) e = same-findings-true x y e
passed (history x y) e = same_option-true same_list same-list-true x y e
passed (builds x y) e = same-answer-true eqb eqb-true x y e
passed (finds x y) e = same-answer-true same_findings same-findings-true x y e
passed (compares x y) e = same-answer-true (same_option same_list) (same_option-true same_list same-list-true) x y e
passed (tells x y) e = same-answer-true same_telling same-telling-true x y e

-- each case of the table, by its place
pub case_holds : (k : ℕ) → k < length cases → Holds (get_or cases k (number 0 0))
case_holds k within = passed (get_or cases k (number 0 0)) (not-false (test (get_or cases k (number 0 0))) (place_none fails (number 0 0) cases none-fails k within))
