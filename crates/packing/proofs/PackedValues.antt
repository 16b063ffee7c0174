-- What a packed number tells: modulo 256 the refusal's number, so that a refusal is told from every other answer, and divided by 256 the value. Each
-- finding is read off verdict's value again. And what the number for equal bytes tells, which is not packed.
use mathlib.Core.Bool.{Bool, true, false, false≢true}
use mathlib.Core.Logic.{◌↔◌}
use mathlib.Core.Path.{◌≡◌, refl, sym, ◌∙◌}
use mathlib.Core.List.{List}
use mathlib.Core.Option.{Option, none, some}
use Prim.Native.Nat.{ℕ, zero, suc, ◌+◌, ◌*◌, ◌^◌, ◌/◌, ◌%◌, ◌≤◌, ◌<◌}
use native.Mathlib.Omega.{arith}
use lib.ListN.{length}
use Rattle.automaton.specs.History.{History}
use Rattle.definitions.specs.Answer.{answer}
use Rattle.definitions.specs.Refusal.{book_refusal}
use Rattle.definitions.specs.Build.{book_of, build_refusal, build_answer}
use Rattle.definitions.specs.Verdict.{Found, conflict, missing, blocked, findings, verdict_refusal, verdict_answer}
use Rattle.definitions.specs.Compare.{same_bytes, comparison, compare_refusal, compare_answer}
use Rattle.definitions.specs.Book.{states}
use Rattle.definitions.specs.Page.{page_refusal, page_answer}
use Rattle.definitions.specs.Way.{way, way_refusal, way_answer}
use Rattle.packing.specs.Packing.{packed, equal_or_not, book_length, page_length, history_length, length_or_none, found_value, findings_value}
use Rattle.definitions.proofs.Demands.{same-bytes-right}
use Rattle.verdict.proofs.SmallFindings.{SmallFound, findings_small}
use Rattle.packing.proofs.RefusalBounds.{build_refusal_small, verdict_refusal_small, page_refusal_small, way_refusal_small, compare_refusal_small}

-- ---- the refusal and the value
pub record Tells (refusal value told : ℕ) : Type 0 where
  pub number : told % 256 ≡ refusal
  pub given : refusal ≡ 0 → told / 256 ≡ value
  pub nothing : (refusal ≡ 0 → ⊥) → told / 256 ≡ 0

tells : {A : Type 0} (refusal : ℕ) (value : A → ℕ) (a : A) → refusal ≤ 255 → Tells refusal (value a) (packed value (answer refusal a))
tells zero value a small = record { number = omega arith; given = λ _. omega arith; nothing = λ n. omega arith }
tells (suc k) value a small = record { number = omega arith; given = λ e. absurd (omega arith); nothing = λ _. omega arith }

pub build_told : (p buffer : List ℕ) → Tells (build_refusal p buffer) (length (book_of p)) (packed book_length (build_answer p buffer))
unfolding build_answer
build_told p buffer = tells (build_refusal p buffer) book_length (length (book_of p)) (build_refusal_small p buffer)

pub verdict_told : (b x y z : List ℕ) → Tells (verdict_refusal b x y z) (findings_value (findings b)) (packed findings_value (verdict_answer b x y z))
unfolding verdict_answer
verdict_told b x y z = tells (verdict_refusal b x y z) findings_value (findings b) (verdict_refusal_small b x y z)

pub page_told : (b buffer : List ℕ) → Tells (page_refusal b buffer) (states b * 73) (packed page_length (page_answer b buffer))
unfolding page_answer
page_told b buffer = tells (page_refusal b buffer) page_length (states b * 73) (page_refusal_small b buffer)

pub way_told : (b : List ℕ) (r outcome : ℕ) (buffer : List ℕ)
    → Tells (way_refusal b r outcome buffer) (length_or_none (way b r outcome)) (packed length_or_none (way_answer b r outcome buffer))
unfolding way_answer
way_told b r outcome buffer = tells (way_refusal b r outcome buffer) length_or_none (way b r outcome) (way_refusal_small b r outcome buffer)

pub compare_told : (b d buffer : List ℕ) → Tells (compare_refusal b d buffer) (history_length (comparison b d)) (packed history_length (compare_answer b d buffer))
unfolding compare_answer
compare_told b d buffer = tells (compare_refusal b d buffer) history_length (comparison b d) (compare_refusal_small b d buffer)

-- ---- equal bytes: 1 exactly for equal strings, else 0
pub same-bytes_told : (x y : List ℕ) → ((equal_or_not (same_bytes x y) ≡ 1) ↔ (x ≡ y)) × (equal_or_not (same_bytes x y) ≤ 1)
same-bytes_told x y = go (same_bytes x y) refl
  where
    go : (same : Bool) → same_bytes x y ≡ same → ((equal_or_not same ≡ 1) ↔ (x ≡ y)) × (equal_or_not same ≤ 1)
    go true e = (((λ _. (same-bytes-right x y).0 e), λ _. refl), omega arith)
    go false e = (((λ z. absurd (omega (arith, z))), λ equal. absurd (false≢true (sym e ∙ (same-bytes-right x y).1 equal))), omega arith)

-- ---- the findings
pub finding_told : (t : Found) → SmallFound t → (found_value (some t) % 256 ≡ length t.history + 1) × (found_value (some t) / 256 ≡ t.request)
finding_told t small = (omega arith, omega arith)

found_below : (finding : Option Found) → ((t : Found) → finding ≡ some t → SmallFound t) → found_value finding < 2 ^ 16
found_below none small = omega arith
found_below (some t) small = omega (arith, small t refl)

blocked-below : (finding : Option History) → ((h : History) → finding ≡ some h → length h < 127) → length_or_none finding < 2 ^ 8
blocked-below none small = omega arith
blocked-below (some h) small = omega (arith, small h refl)

parts : (c m k : ℕ) → c < 2 ^ 16 → m < 2 ^ 16
    → ((c + 2 ^ 16 * m + 2 ^ 32 * k) % 2 ^ 16 ≡ c) × ((c + 2 ^ 16 * m + 2 ^ 32 * k) / 2 ^ 16 % 2 ^ 16 ≡ m) × ((c + 2 ^ 16 * m + 2 ^ 32 * k) / 2 ^ 32 ≡ k)
parts c m k few small = (omega arith, omega arith, omega arith)

-- the bits of each finding
pub record FindingsTold (b : List ℕ) (told : ℕ) : Type 0 where
  pub of_conflict : told % 2 ^ 16 ≡ found_value (conflict b)
  pub of_missing : told / 2 ^ 16 % 2 ^ 16 ≡ found_value (missing b)
  pub of_blocked : told / 2 ^ 32 ≡ length_or_none (blocked b)
  pub byte : length_or_none (blocked b) < 2 ^ 8

pub findings_told : (b : List ℕ) → book_refusal b ≡ 0 → FindingsTold b (findings_value (findings b))
unfolding findings
findings_told b passes =
    let small = findings_small b passes in
    let are = parts (found_value (conflict b)) (found_value (missing b)) (length_or_none (blocked b)) (found_below (conflict b) small.of_conflict)
    (found_below (missing b) small.of_missing) in
    record { of_conflict = are.0; of_missing = are.1; of_blocked = are.2; byte = blocked-below (blocked b) small.of_blocked }
