-- From the arrays of the rules to the rows of images: the sets chosen by level are those of the rules that apply.
use mathlib.Core.Path.{◌≡◌, refl, sym, ap, ◌∙◌}
use mathlib.Core.Bool.{Bool, cond, true, false, ◌&&◌}
use mathlib.Core.List.{List}
use Prim.Native.Nat.{ℕ, ◌+◌, ◌-◌, ◌*◌, ◌<◌, ◌≤◌}
use native.Mathlib.Nat.{suc-mul}
use native.Mathlib.Numerals.{add-one}
use native.Mathlib.Omega.{arith}
use lib.Arith.{digits_div, digits_mod}
use lib.Bits.{bit_and}
use lib.Dec.{eqb}
use lib.ListN.{length, get_or, take, drop}
use borrow.Author.Tests.{lt-ltb, le-ltb}
use borrow.Rule.Slice.PartMut.{put_mid}
use Rattle.automaton.proofs.Congruence.{fold_below-same}
use Rattle.automaton.proofs.Loops.{row_within}
use Rattle.definitions.specs.Bytes.{bit}
use Rattle.definitions.specs.Policy.{events, variables, rules, requests, width, rule, decision, level, change, value}
use Rattle.definitions.specs.Valuation.{valuations, variable_in, by_rule}
use Rattle.definitions.specs.Situation.{fits, applies, empty_set, insert, with_rule, request_image}
use Rattle.definitions.specs.Codes.{request_of, decision_of}
use Rattle.rules.specs.Arrays.{entry_of, Tabled}
use Rattle.rules.specs.RuleSets.{rule_admits, rule_enabled, enabling}
use Rattle.rules.specs.Changes.{Valued}
use Rattle.rules.proofs.Arrays.{tabled_part}
use Rattle.rules.proofs.RuleSets.{bit_and_law, bit-passing, passing-below}
use Rattle.rules.proofs.Values.{enabling-same}
use Rattle.rules.proofs.Changes.{carried_low}
use Rattle.images.specs.Choice.{level_at, decision_at, Listed, level_in, with_most, greatest, with_chosen, leading, chosen_for}
use Rattle.images.specs.Images.{rule_target, event_from, image_from, decided_from, DecidedBy, Prepared, image_entry, ImagesOf}
use Rattle.images.specs.declared.deciding.Rank.{Rank}
use Rattle.images.proofs.GreatestLevel.{by_level, seen, top}
use Rattle.images.proofs.Choices.{leading-idle}
use Rattle.images.proofs.Targets.{rule_target-same, event_from-same}

-- rule i for request r in valuation v
abbrev fits_of : List ℕ → ℕ → ℕ → ℕ → Bool
fits_of p r v i = fits p (rule p i) r v

abbrev level_of : List ℕ → ℕ → ℕ
level_of p k = level p (rule p k)

cond_same : (a b : Bool) (x y z : ℕ) → a ≡ b → x ≡ y → cond a x z ≡ cond b y z
cond_same a b x y z e f = rw (e, f)

-- ---- the decided requests, by the set of the rules that are enabled and the array of where they lead
module _ (p bounds sets : List ℕ) (ranks : List Rank) (values targets : List ℕ) (able : ℕ) (h : Prepared p bounds sets ranks) (enabled : able ≡ enabling p (entry_of values))
    (targeted : Tabled (rules p) (rule_target p (entry_of values)) targets) where
  able_below : (k : ℕ) → bit able k ≡ true → k < rules p
  able_below k e = passing-below (rule_enabled p (entry_of values)) (rules p) k (rw enabled at e)

  -- every rule that is enabled has its entries
  pub rules_listed : Valued p values → Listed able ranks targets
  rules_listed valued k e =
      let l = able_below k e in (
        omega (arith, h.ranked.room),
        omega (arith, targeted.room),
        rw (targeted.entry k l) (carried_low p (change p (rule p k)) (entry_of values) h.passed valued.most),
      )

  level-is : (k : ℕ) → k < rules p → level_at ranks k ≡ level_of p k
  level-is k l = ap (λ (r : Rank). r.level) (h.ranked.entry k l)

  decision-is : (k : ℕ) → k < rules p → decision_at ranks k ≡ decision p (rule p k)
  decision-is k l = ap (λ (r : Rank). r.decision) (h.ranked.entry k l)

  module _ (v : ℕ) (valued : Tabled (variables p) (variable_in p v) values) where
    able-is : able ≡ enabling p (variable_in p v)
    able-is = enabled ∙ enabling-same p (entry_of values) (variable_in p v) valued.entry

    target_is : (k : ℕ) → k < rules p → get_or targets k 0 ≡ by_rule p k v
    target_is k l = targeted.entry k l ∙ rule_target-same p (entry_of values) (variable_in p v) valued.entry k

    module _ (r : ℕ) (l : r < requests p) where
      -- the rules that fit request r
      abbrev fitting : ℕ
      fitting = bit_and (get_or sets r 0) able

      fits-entry : (k : ℕ) → k < rules p → bit fitting k ≡ fits p (rule p k) r v
      fits-entry k m =
          bit_and_law (get_or sets r 0) able k
          ∙ rw (h.matched.entry r l, able-is, bit-passing (rule_admits p (value p r)) (rules p) k m, bit-passing (rule_enabled p (variable_in p v)) (rules p) k m)

      fits-beyond : (k : ℕ) → rules p ≤ k → bit fitting k ≡ false
      fits-beyond k m = bit_and_law (get_or sets r 0) able k ∙ go (bit (get_or sets r 0) k) (bit able k) refl
        where
          go : (a b : Bool) → bit able k ≡ b → (a && b) ≡ false
          go false b e = refl
          go true false e = refl
          go true true e = let n = able_below k e in absurd (omega arith)

      greatest-is : greatest fitting ranks (rules p) ≡ top (rules p) (fits_of p r v) (level_of p)
      greatest-is =
          fold_below-same (with_most (level_in fitting ranks)) (with_most (seen (rules p) (fits_of p r v) (level_of p))) 0 (rules p)
          (λ k best m. rw (fits-entry k m, level-is k m))

      leading-image : (d : ℕ) → leading fitting ranks targets (length ranks) d ≡ request_image p r d v
      leading-image d =
          leading-idle fitting ranks targets (rules p) (length ranks) h.ranked.room (λ i a b. fits-beyond i a) d
          ∙ fold_below-same (with_chosen fitting ranks targets (greatest fitting ranks (rules p)) d) (with_rule p r d v) empty_set (rules p)
          (λ k set m. cond_same _ _ _ _ set (test k m) (ap (λ (u : ℕ). insert u set) (target_is k m)))
        where
          test : (k : ℕ) → k < rules p
              → (eqb (decision_at ranks k) d && (bit fitting k && eqb (level_at ranks k) (greatest fitting ranks (rules p))))
              ≡ (eqb (decision p (rule p k)) d && applies p (rule p k) r v)
          test k m =
              rw (decision-is k m, fits-entry k m, level-is k m, greatest-is)
              (ap (λ (b : Bool). eqb (decision p (rule p k)) d && b) (sym (by_level (rules p) (fits_of p r v) (level_of p) k m)))

    code-image : (c : ℕ) → c < 2 * requests p → chosen_for sets able ranks targets c ≡ decided_from p v c
    code-image c l =
        let request : request_of 0 c ≡ request_of (events p) (events p + c) = omega arith in
        let decision : decision_of 0 c ≡ decision_of (events p) (events p + c) = omega arith in
        leading-image (request_of 0 c) (omega arith) (decision_of 0 c)
        ∙ rw (request, decision, le-ltb (events p + c) (events p) (omega arith))

  pub row_decided : (row : List ℕ) → Tabled (2 * length sets) (chosen_for sets able ranks targets) row → DecidedBy p values row
  row_decided row done v valued =
      let done' : Tabled (2 * requests p) (chosen_for sets able ranks targets) row = rw h.counted at done in
      record { room = done'.room; entry = λ c l. done'.entry c l ∙ code-image v valued c l }

-- ---- the row of valuation v: its events, and then its requests in the part after them
pub row_imaged : (p values : List ℕ) (v first : ℕ) (row part : List ℕ) → Tabled (variables p) (variable_in p v) values → first ≡ events p → width p ≤ length row
    → Tabled (events p) (event_from p (entry_of values)) row → length part ≡ length (take (length row - first) (drop first row)) → DecidedBy p values part
    → Tabled (width p) (image_from p v) (put_mid first (length row - first) row part)
row_imaged p values v first row part valued e room done long decided =
    let done' : Tabled first (event_from p (entry_of values)) row = rw (← e) at done in
    let all = tabled_part first (2 * requests p) (event_from p (entry_of values)) (decided_from p v) (image_from p v) row part long done' (decided v valued)
    (λ i l. event_from-same p (entry_of values) (variable_in p v) valued.entry i ∙ rw (lt-ltb i (events p) (omega arith)))
    (λ j l. ap (λ (c : ℕ). image_from p v (c + j)) (sym e)) (omega arith) in
    let wide : first + 2 * requests p ≡ width p = rw e in
    rw wide at all

-- ---- the rows of all valuations
module _ (p : List ℕ) where
  pub row-entry : (v c : ℕ) → c < width p → image_from p v c ≡ image_entry p (v * width p + c)
  row-entry v c l = rw (digits_mod v {m = width p} l, digits_div v {m = width p} l)

  -- the row of valuation v, which was handed on, has come back
  pub rows_more : (w v : ℕ) (now part : List ℕ) → w ≡ width p → v * w + w ≤ length now → Tabled (v * w) (image_entry p) now
      → length part ≡ length (take (length now - v * w) (drop (v * w) now)) → Tabled (width p) (image_from p v) part
      → Tabled ((v + 1) * w) (image_entry p) (put_mid (v * w) (length now - v * w) now part)
  rows_more w v now part ew room done e row =
      let next : v * w + width p ≡ (v + 1) * w = ap (λ (x : ℕ). v * w + x) (sym ew) ∙ sym (ap (λ (x : ℕ). x * w) (add-one v) ∙ suc-mul v w) in
      rw next at
      (tabled_part (v * w) (width p) (image_entry p) (image_from p v) (image_entry p) now part e done row (λ i l. refl)
      (λ j l. row-entry v j l ∙ ap (λ (x : ℕ). image_entry p (v * x + j)) (sym ew)) (omega arith))

  pub images_are : (images : List ℕ) → Tabled (valuations p * width p) (image_entry p) images → ImagesOf p images
  images_are images done v c l m = done.entry (v * width p + c) (let w = row_within v (valuations p) (width p) l in omega arith) ∙ sym (row-entry v c m)
