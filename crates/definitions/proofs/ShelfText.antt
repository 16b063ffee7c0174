-- Judging a long input by its first bytes alone, as `shelf` does, is judging it whole: every accepted policy is under 754 bytes.
use mathlib.Core.Path.{◌≡◌, refl, sym, ap, ◌∙◌}
use mathlib.Core.Bool.{Bool, true, false, cond}
use mathlib.Core.List.{List}
use Prim.Native.Nat.{ℕ, zero, suc, ◌≤◌, ◌<◌}
use native.Mathlib.Omega.{arith}
use native.Mathlib.Decide.{dec_le}
use native.Mathlib.Nat.{mul-le-mul}
use lib.Dec.{eqb, eqb-suc-zero}
use lib.ListN.{length, take}
use lib.Seq.{take_all, length-take-le, get_or-take}
use borrow.Author.Tests.{le-leb, ne_eqb}
use Rattle.definitions.specs.Answer.{judge, refusal_by}
use Rattle.definitions.specs.Bytes.{has_mark, byte}
use Rattle.definitions.specs.Policy.{events, fields, variables, rules, rule_size, exact_length}
use Rattle.definitions.specs.Refusal.{version_holds, ranges_hold, file_checks, file_refusal, policy_refusal}
use Rattle.definitions.specs.Build.{book_of}
use Rattle.definitions.specs.Decimal.{decimal}
use Rattle.definitions.specs.Shelf.{line, refused_word, book_text, policy_text}
use Rattle.definitions.proofs.CheckLists.{rows_from}
use Rattle.definitions.proofs.Starts.{starts-most}
use Rattle.definitions.proofs.Accepted.{ranges_true, file_accepted}

exact-short : (p : List ℕ) → events p ≤ 8 → fields p ≤ 4 → variables p ≤ 4 → rules p ≤ 32 → exact_length p < 754
exact-short p E F P R =
    let size : rule_size p ≤ 22 = omega arith in
    omega (arith, starts-most p, mul-le-mul R size, mul-le-mul E P)

-- a file of 754 bytes or more that row 5 lets pass is refused by row 6
too_long : (p : List ℕ) → 754 ≤ length p → ranges_hold p ≡ true → refusal_by (rows_from 6 file_checks) p ≡ 6
too_long p l e =
    let r = ranges_true p e in
    let short = exact-short p r.0 r.2 r.3 r.4 in
    rw (ne_eqb (length p) (exact_length p) (λ same. omega arith)) refl

judge_as : (number : ℕ) (passes : Bool) (x y : ℕ) → (passes ≡ true → x ≡ y) → judge number passes x ≡ judge number passes y
judge_as number true x y e = e refl
judge_as number false x y e = refl

module _ (k : ℕ) (enough : 754 ≤ k) (p : List ℕ) where
  same_byte : (i : ℕ) → i < k → byte (take k p) i ≡ byte p i
  same_byte i l = get_or-take k p i 0 l

  same_ranges : ranges_hold (take k p) ≡ ranges_hold p
  same_ranges = rw (same_byte 5 (omega arith), same_byte 6 (omega arith), same_byte 7 (omega arith), same_byte 8 (omega arith)) refl

  same-mark : (x y z : ℕ) → has_mark x y z (take k p) ≡ has_mark x y z p
  same-mark x y z = rw (same_byte 0 (omega arith), same_byte 1 (omega arith), same_byte 2 (omega arith)) refl

  same_version : version_holds (take k p) ≡ version_holds p
  same_version = rw (same_byte 3 (omega arith), same_byte 4 (omega arith)) refl

  longer : k < length p → file_refusal (take k p) ≡ file_refusal p
  unfolding file_refusal
  longer l =
      let n : length (take k p) ≡ k = length-take-le k p (omega arith) in
      let here : 754 ≤ length (take k p) = omega arith in
      let late : ranges_hold p ≡ true → refusal_by (rows_from 6 file_checks) (take k p) ≡ refusal_by (rows_from 6 file_checks) p =
      λ e. too_long (take k p) here (same_ranges ∙ e) ∙ sym (too_long p (omega arith) e) in
      rw (le-leb 9 (length (take k p)) (omega arith), le-leb 9 (length p) (omega arith), same-mark 0x50 0x4F 0x4C, same_version, same_ranges)
      (judge_as 3 (has_mark 0x50 0x4F 0x4C p) _ _ (λ _. judge_as 4 (version_holds p) _ _ (λ _. judge_as 5 (ranges_hold p) _ _ late)))

refused_number : (p : List ℕ) (n : ℕ) → file_refusal p ≡ suc n → policy_refusal p ≡ suc n
unfolding policy_refusal
refused_number p n e = rw (e, eqb-suc-zero n) refl

second : (n : ℕ) (x y : List ℕ) → cond (eqb (suc n) 0) x y ≡ y
second n x y = rw (eqb-suc-zero n) refl

-- what is written of a file that a row before row 11 refuses
refused_text : (p : List ℕ) (n : ℕ) → file_refusal p ≡ suc n → policy_text p ≡ line refused_word (decimal (suc n))
unfolding policy_text
refused_text p n e =
    ap (λ r. cond (eqb r 0) (book_text (book_of p)) (line refused_word (decimal r))) (refused_number p n e) ∙ second n _ _

-- "a longer one is judged by its first 1,024": that says what judging it whole would say
pub cut_text : (k : ℕ) → 754 ≤ k → (p : List ℕ) → policy_text (take k p) ≡ policy_text p
cut_text k enough p = go (dec_le (length p) k)
  where
    cut : k < length p → (n : ℕ) → file_refusal p ≡ n → policy_text (take k p) ≡ policy_text p
    cut l zero e =
        let a = file_accepted p e in
        let short = exact-short p a.events_most a.fields_most a.variables_most a.rules_most in
        absurd (omega (arith, short, a.exact))
    cut l (suc n) e = refused_text (take k p) n (longer k enough p l ∙ e) ∙ sym (refused_text p n e)

    go : Dec (length p ≤ k) → policy_text (take k p) ≡ policy_text p
    go (yes l) = rw (take_all k p l) refl
    go (no l) = cut (omega (arith, l)) (file_refusal p) refl
