-- How large the numbers of document 01's answers are: what makes each fit into its bits of a packed number.
use mathlib.Core.Path.{refl}
use mathlib.Core.Bool.{Bool, true, false, ◌&&◌}
use mathlib.Core.List.{List}
use Prim.Native.Nat.{ℕ, ◌≤◌}
use native.Mathlib.Nat.{mul-le-mul}
use native.Mathlib.Omega.{arith}
use lib.Dec.{leb, ltb, eqb}
use lib.ListN.{length}
use Rattle.automaton.specs.Below.{same_list}
use Rattle.definitions.specs.Answer.{judge, then_judge}
use Rattle.definitions.specs.Book.{frame, requests}
use Rattle.definitions.specs.Refusal.{file_checks, file_refusal, situations, row11, policy_refusal, Accepted, book_checks, book_refusal, row15}
use Rattle.definitions.specs.Build.{book_of, build_refusal}
use Rattle.definitions.specs.Verdict.{verdict_refusal}
use Rattle.definitions.specs.Compare.{compare_refusal}
use Rattle.definitions.specs.Page.{page_refusal}
use Rattle.definitions.specs.Way.{way_refusal}
use Rattle.definitions.proofs.CheckLists.{refusal_most}
use Rattle.definitions.proofs.Accepted.{book-passed}
use Rattle.definitions.proofs.Demands.{demand2}

-- ---- a book has at most 17,284 bytes
pub book_small : (p : List ℕ) → Accepted p → length (book_of p) ≤ 17284
book_small p accepted =
    let right = demand2 p accepted in
    let layout = ((book-passed (book_of p)).0 right.passes).layout in
    omega (arith, right.size, mul-le-mul layout.header.states_most layout.header.width_most)

-- ---- a refusal's number is at most 255
judge_small : (number : ℕ) (passes : Bool) (later : ℕ) → number ≤ 255 → later ≤ 255 → judge number passes later ≤ 255
judge_small number true later l m = m
judge_small number false later l m = l

then_small : (first later : ℕ) → first ≤ 255 → later ≤ 255 → then_judge first later ≤ 255
then_small first later l m = judge_small first (eqb first 0) later l m

file_refusal_small : (p : List ℕ) → file_refusal p ≤ 255
unfolding file_refusal
file_refusal_small p = refusal_most p 255 file_checks refl

policy_refusal_small : (p : List ℕ) → policy_refusal p ≤ 255
unfolding policy_refusal row11
policy_refusal_small p =
    then_small (file_refusal p) (row11 p) (file_refusal_small p) (judge_small 11 (leb (length (situations p)) 127) 0 (omega arith) (omega arith))

book_refusal_small : (b : List ℕ) → book_refusal b ≤ 255
unfolding book_refusal
book_refusal_small b = refusal_most b 255 book_checks refl

pub build_refusal_small : (p buffer : List ℕ) → build_refusal p buffer ≤ 255
unfolding build_refusal
build_refusal_small p buffer = judge_small 1 (leb 17284 (length buffer)) (policy_refusal p) (omega arith) (policy_refusal_small p)

pub verdict_refusal_small : (b x y z : List ℕ) → verdict_refusal b x y z ≤ 255
unfolding verdict_refusal
verdict_refusal_small b x y z =
    judge_small 1 (leb 128 (length x) && leb 128 (length y) && leb 128 (length z)) (book_refusal b) (omega arith) (book_refusal_small b)

pub page_refusal_small : (b buffer : List ℕ) → page_refusal b buffer ≤ 255
unfolding page_refusal
page_refusal_small b buffer = judge_small 1 (leb 9271 (length buffer)) (book_refusal b) (omega arith) (book_refusal_small b)

pub way_refusal_small : (b : List ℕ) (r outcome : ℕ) (buffer : List ℕ) → way_refusal b r outcome buffer ≤ 255
unfolding way_refusal
way_refusal_small b r outcome buffer =
    let last = judge 16 (ltb r (requests b)) 0 in
    judge_small 1 (leb 128 (length buffer)) (then_judge (book_refusal b) (judge 18 (leb outcome 3) last)) (omega arith)
    (then_small (book_refusal b) (judge 18 (leb outcome 3) last) (book_refusal_small b)
    (judge_small 18 (leb outcome 3) last (omega arith) (judge_small 16 (ltb r (requests b)) 0 (omega arith) (omega arith))))

pub compare_refusal_small : (b d buffer : List ℕ) → compare_refusal b d buffer ≤ 255
unfolding compare_refusal row15
compare_refusal_small b d buffer =
    judge_small 1 (leb 256 (length buffer)) (then_judge (book_refusal b) (then_judge (book_refusal d) (row15 b d))) (omega arith)
    (then_small (book_refusal b) (then_judge (book_refusal d) (row15 b d)) (book_refusal_small b)
    (then_small (book_refusal d) (row15 b d) (book_refusal_small d)
    (judge_small 15 (same_list (frame b) (frame d)) 0 (omega arith) (omega arith))))
