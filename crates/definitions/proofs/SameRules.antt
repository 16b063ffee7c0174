-- Two files with the same rules, of whatever versions, whose variables begin alike: they take the same steps, so that row 11 refuses both or neither and
-- they have one book.
use mathlib.Core.Path.{◌≡◌, refl, sym, ap, ap₂, ◌∙◌}
use mathlib.Core.Bool.{Bool, cond, true, false, not, ◌&&◌}
use mathlib.Core.List.{List, ◌∷◌}
use Prim.Native.Nat.{ℕ, zero, suc, ◌+◌, ◌-◌, ◌*◌, ◌/◌, ◌%◌, ◌<◌, max}
use native.Mathlib.Omega.{arith}
use native.Mathlib.Decide.{dec_lt}
use lib.Dec.{leb, ltb, eqb}
use lib.ListN.{length}
use borrow.Author.Tests.{lt-ltb, le-ltb}
use Rattle.automaton.specs.Below.{all_below, any_below, list_below, fold_below}
use Rattle.automaton.specs.Machine.{step}
use Rattle.automaton.specs.Explore.{Reached}
use Rattle.automaton.specs.Join.{minimal}
use Rattle.automaton.specs.Table.{table}
use Rattle.automaton.proofs.Congruence.{all-below-same, fold_below-same, reached-same, table_same}
use Rattle.definitions.specs.Answer.{judge, then_judge}
use Rattle.definitions.specs.Bytes.{byte, times, product, bit}
use Rattle.definitions.specs.Policy as P
use Rattle.definitions.specs.Valuation.{bound, worth, valuations, with_variable, initial_value, start_valuation, variable_in, changed, carried_out, by_rule, by_event}
use Rattle.definitions.specs.Codes.{request_of, decision_of}
use Rattle.definitions.specs.Situation.{mask_lets, lets_through, is_below, enabled, fits, outranked, insert, union, start_situation, decides, event_image, request_image, image, image_of_set, policy_machine}
use Rattle.definitions.specs.Book.{book_bytes}
use Rattle.definitions.specs.Refusal.{file_refusal, situations, row11, policy_refusal}
use Rattle.definitions.specs.Build.{book_rows, book_of}
use Rattle.definitions.specs.Demands.{SameRules, StartsAreRight}

module _ (p q : List ℕ) (same : SameRules p q) where
  -- ---- rules and valuations
  rule-same : (k : ℕ) → P.rule p k ≡ P.rule q k
  rule-same k = rw (same.table, same.fields, same.variables)

  bound-same : (j : ℕ) → bound p j ≡ bound q j
  bound-same j = λ i.
      fold_below (same.rules i) 0
      (λ k b. max b (max (byte (rule-same k i) (2 * same.fields i + 2 + 3 * j)) (byte (rule-same k i) (2 * same.fields i + 3 + 3 * j))))

  worth-same : (j : ℕ) → worth p j ≡ worth q j
  worth-same j = λ i. product j (λ k. suc (bound-same k i))

  valuations-same : valuations p ≡ valuations q
  valuations-same = λ i. product (same.variables i) (λ k. suc (bound-same k i))

  variable_same : (v j : ℕ) → variable_in p v j ≡ variable_in q v j
  variable_same v j = λ i. v / worth-same j i % suc (bound-same j i)

  enabled-same : (ρ : List ℕ) (v : ℕ) → enabled p ρ v ≡ enabled q ρ v
  enabled-same ρ v = λ i.
      all_below (same.variables i)
      (λ j. leb (byte ρ (2 * same.fields i + 2 + 3 * j)) (variable_same v j i) && is_below (variable_same v j i) (byte ρ (2 * same.fields i + 3 + 3 * j)))

  carried_same : (f g : ℕ → ℕ) → ((j : ℕ) → f j ≡ g j) → (v : ℕ) → carried_out p f v ≡ carried_out q g v
  carried_same f g h v = λ i.
      fold_below (same.variables i) 0 (λ j u. u + changed (h j i) (bound-same j i) (variable_same v j i) * worth-same j i)

  by-rule-same : (k v : ℕ) → by_rule p k v ≡ by_rule q k v
  by-rule-same k v = carried_same (P.change p (P.rule p k)) (P.change q (P.rule q k)) (λ j i. byte (rule-same k i) (2 * same.fields i + 4 + 3 * j)) v

  by_event-same : (e v : ℕ) → by_event p e v ≡ by_event q e v
  by_event-same e v = carried_same (P.event_change p e) (P.event_change q e) (λ j i. byte (changes i) (e * same.variables i + j)) v
    where
      changes : P.rule p (P.rules p) ≡ P.rule q (P.rules q)
      changes = rule-same (P.rules p) ∙ ap (P.rule q) same.rules

  -- ---- requests
  requests-same : P.requests p ≡ P.requests q
  requests-same =
      fold_below-same (times (P.count p)) (times (P.count q)) 1 (P.fields p) (λ f n l. ap (λ (x : ℕ). n * x) (same.counts f l))
      ∙ ap (λ (n : ℕ). product n (P.count q)) same.fields

  width_same : P.width p ≡ P.width q
  width_same = ap₂ (λ (e n : ℕ). e + 2 * n) same.events requests-same

  stride-same : (f : ℕ) → P.stride p f ≡ P.stride q f
  stride-same f =
      fold_below-same (times (P.later_count p f)) (times (P.later_count q f)) 1 (P.fields p - suc f)
      (λ i n l. ap (λ (x : ℕ). n * x) (same.counts (suc f + i) (omega arith)))
      ∙ ap (λ (n : ℕ). product (n - suc f) (P.later_count q f)) same.fields

  value_same : (r f : ℕ) → f < P.fields p → P.value p r f ≡ P.value q r f
  value_same r f l = rw (stride-same f, same.counts f l)

  present_same : (f : ℕ) → P.present_count p f ≡ P.present_count q f
  present_same f = go (dec_lt f (P.fields p))
    where
      go : Dec (f < P.fields p) → P.present_count p f ≡ P.present_count q f
      go (yes l) = rw (← same.fields, lt-ltb f (P.fields p) l) (same.counts f l)
      go (no l) = rw (← same.fields, le-ltb f (P.fields p) (omega arith))

  frame_same : P.frame p ≡ P.frame q
  frame_same = λ i. same.events i ∷ same.fields i ∷ list_below 4 (λ f. present_same f i)

  -- ---- which rules apply
  admitted_same : (ρ : List ℕ) (r : ℕ) → lets_through p ρ r ≡ lets_through q ρ r
  admitted_same ρ r =
      all-below-same (mask_lets p ρ r) (mask_lets q ρ r) (P.fields p) (λ f l. ap (bit (P.mask ρ f)) (value_same r f l))
      ∙ ap (λ (n : ℕ). all_below n (mask_lets q ρ r)) same.fields

  fits-same : (ρ : List ℕ) (r v : ℕ) → fits p ρ r v ≡ fits q ρ r v
  fits-same ρ r v = λ i. admitted_same ρ r i && enabled-same ρ v i

  fits-rule-same : (k r v : ℕ) → fits p (P.rule p k) r v ≡ fits q (P.rule q k) r v
  fits-rule-same k r v = fits-same (P.rule p k) r v ∙ ap (λ (ρ : List ℕ). fits q ρ r v) (rule-same k)

  level-same : (k : ℕ) → P.level p (P.rule p k) ≡ P.level q (P.rule q k)
  level-same k = λ i. byte (rule-same k i) (2 * same.fields i + 1)

  outranked-same : (k r v : ℕ) → outranked p (P.rule p k) r v ≡ outranked q (P.rule q k) r v
  outranked-same k r v = λ i. any_below (same.rules i) (λ other. ltb (level-same k i) (level-same other i) && fits-rule-same other r v i)

  decides-same : (r d v k : ℕ) → decides p r d v k ≡ decides q r d v k
  decides-same r d v k = λ i.
      eqb (byte (rule-same k i) (2 * same.fields i)) d && (fits-rule-same k r v i && not (outranked-same k r v i))

  -- ---- steps
  request-image-same : (r d v : ℕ) → request_image p r d v ≡ request_image q r d v
  request-image-same r d v = λ i.
      fold_below (same.rules i) 0 (λ k set. cond (decides-same r d v k i) (insert (by-rule-same k v i) set) set)

  image-same : (c v : ℕ) → image p c v ≡ image q c v
  image-same c v = rw same.events (go (ltb c (P.events q)))
    where
      go : (b : Bool)
          → cond b (event_image p c v) (request_image p (request_of (P.events q) c) (decision_of (P.events q) c) v)
          ≡ cond b (event_image q c v) (request_image q (request_of (P.events q) c) (decision_of (P.events q) c) v)
      go true = ap (λ (u : ℕ). insert u 0) (by_event-same c v)
      go false = request-image-same (request_of (P.events q) c) (decision_of (P.events q) c) v

  image_of_set-same : (set c : ℕ) → image_of_set p set c ≡ image_of_set q set c
  image_of_set-same set c = λ i. fold_below (valuations-same i) 0 (λ v found. cond (bit set v) (union found (image-same c v i)) found)

  step_same : (s c : ℕ) → step (policy_machine p) s c ≡ step (policy_machine q) s c
  step_same zero c = refl
  step_same (suc s) c = λ i. cond (ltb c (width_same i)) (image_of_set-same (suc s) c i) 0

  -- ---- variables that begin alike
  module _ (alike : (j : ℕ) → j < P.variables p → initial_value p j ≡ initial_value q j) where
    start-same : start_valuation p ≡ start_valuation q
    start-same =
        fold_below-same (with_variable p (initial_value p)) (with_variable q (initial_value q)) 0 (P.variables p)
        (λ j v l. ap₂ (λ (x y : ℕ). v + x * y) (alike j l) (worth-same j))
        ∙ ap (λ (n : ℕ). fold_below n 0 (with_variable q (initial_value q))) same.variables

    situation-same : start_situation p ≡ start_situation q
    situation-same = ap (λ (v : ℕ). insert v 0) start-same

    situations-same : situations p ≡ situations q
    unfolding situations
    situations-same = reached-same (policy_machine p) (policy_machine q) width_same situation-same step_same 127

    rows_same : book_rows p ≡ book_rows q
    unfolding book_rows
    rows_same =
        ap₂ minimal width_same
        (table_same (policy_machine p) (policy_machine q) width_same situation-same step_same (situations p) ∙ ap (table (policy_machine q)) situations-same)

    book-same : book_of p ≡ book_of q
    unfolding book_of
    book-same = ap₂ book_bytes frame_same rows_same

    refusal-same : file_refusal p ≡ 0 → file_refusal q ≡ 0 → policy_refusal p ≡ policy_refusal q
    unfolding policy_refusal row11
    refusal-same first second =
        ap₂ then_judge (first ∙ sym second) (ap (λ (found : List Reached). judge 11 (leb (length found) 127) 0) situations-same)

pub starts-right : (p q : List ℕ) → file_refusal p ≡ 0 → file_refusal q ≡ 0 → SameRules p q → StartsAreRight p q
starts-right p q first second same alike = (refusal-same p q same alike first second, book-same p q same alike)
