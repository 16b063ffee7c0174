-- The cases of the calls on an opened book: what each answers where the book is refused, where row 16 is, and where none is.
use mathlib.Core.Path.{◌≡◌, refl, ap, sym, ◌∙◌}
use mathlib.Core.Bool.{Bool, true, false, ◌&&◌, and-false}
use mathlib.Core.List.{List}
use Prim.Native.Nat.{ℕ, zero, suc, ◌<◌, ◌≤◌}
use native.Mathlib.Omega.{arith}
use lib.Dec.{ltb, eqb-suc-zero}
use borrow.Author.Tests.{eq-eqb, ne_eqb, lt-ltb, le-ltb}
use Rattle.automaton.specs.Machine.{step, is_state}
use Rattle.definitions.specs.Answer.{judge, then_judge, refused, given}
use Rattle.definitions.specs.Book.{requests, width, states, entry, book_machine}
use Rattle.definitions.specs.Refusal.{book_refusal}
use Rattle.definitions.specs.Telling.{telling}
use Rattle.definitions.specs.Opened.{state_holds, open_refusal, tell_refusal, tell_answer, step_refusal, step_state}
use Rattle.walk.specs.Walk.{open_state, state_refusal}
use Rattle.definitions.proofs.Answers.{refused_answer}
use Rattle.definitions.proofs.Tests.{then_judge-zero, within-true}
use Rattle.definitions.proofs.BookSteps.{is_state_law, step-is-entry}
use Rattle.refusal.proofs.Refused.{some_number}

-- where a test fails, so do more of them: the number is the same
more_tests : (m : ℕ) (p t : Bool) → (p ≡ false → t ≡ false) → 1 ≤ then_judge m (judge 16 p 0) → then_judge m (judge 16 p 0) ≡ then_judge m (judge 16 t 0)
more_tests zero true t f some = absurd (omega arith)
more_tests zero false t f some = rw (f refl)
more_tests (suc m) p t f some = rw (eqb-suc-zero m)

module _ (b : List ℕ) where
  pub open_refused : (n : ℕ) → n ≡ book_refusal b → (n ≡ 0 → ⊥) → (n ≡ open_refusal b) × (0 ≡ open_state b)
  unfolding open_refusal
  open_refused n e f = (e, rw (← e, ne_eqb n 0 f))

  pub open_starts : (n : ℕ) → n ≡ book_refusal b → n ≡ 0 → (n ≡ open_refusal b) × (1 ≡ open_state b)
  unfolding open_refusal
  open_starts n e z = (e, rw (← e, eq-eqb n 0 z))

  -- the same for the check to find
  pub open_by_book : open_refusal b ≡ book_refusal b
  unfolding open_refusal
  open_by_book = refl

  pub open_closed : 1 ≤ book_refusal b → open_state b ≡ 0
  open_closed some = sym (open_refused (book_refusal b) refl (λ z. omega arith)).1

  -- the rows up to that of the state let the call pass
  pub state-passes : (s : ℕ) → 0 ≡ state_refusal b s → book_refusal b ≡ 0
  state-passes s e = ((then_judge-zero (book_refusal b) (judge 16 (state_holds b s) 0)).0 (sym e)).0

  -- ---- telling
  module _ (s r : ℕ) where
    pub tell-err : (n : ℕ) → 1 ≤ n → n ≡ state_refusal b s → refused n ≡ tell_answer b s r
    unfolding tell_answer tell_refusal
    tell-err n some e =
        let same = more_tests (book_refusal b) (state_holds b s) (state_holds b s && ltb r (requests b)) (λ f. rw f) (rw e at some) in
        rw (← same, ← e) (refused_answer n (λ z. omega arith) (telling b s r))

    pub tell-refused : (n : ℕ) → n ≡ book_refusal b → (n ≡ 0 → ⊥) → refused n ≡ tell_answer b s r
    unfolding tell_answer tell_refusal
    tell-refused n e f = rw (← e, ne_eqb n 0 f) (refused_answer n f (telling b s r))

    pub tell-outside : book_refusal b ≡ 0 → (state_holds b s && ltb r (requests b)) ≡ false → refused 16 ≡ tell_answer b s r
    unfolding tell_answer tell_refusal
    tell-outside e f = rw (e, f)

    pub tell-inside : book_refusal b ≡ 0 → state_holds b s ≡ true → r < requests b → given (telling b s r) ≡ tell_answer b s r
    unfolding tell_answer tell_refusal
    tell-inside e h l = rw (e, h, lt-ltb r (requests b) l)

    -- what is told of one of the requests at one of the states
    pub tell_is : 0 ≡ state_refusal b s → state_holds b s ≡ true → r < requests b → tell_answer b s r ≡ given (telling b s r)
    tell_is e h l = sym (tell-inside (state-passes s e) h l)

  -- ---- a step
  module _ (s c : ℕ) where
    -- the number and the state that a step returns
    abbrev Answers : ℕ → ℕ → Type 0
    Answers number state = (number ≡ step_refusal b s c) × (state ≡ step_state b s c)

    unchanged : (n : ℕ) → n ≡ step_refusal b s c → (n ≡ 0 → ⊥) → Answers n s
    unfolding step_state
    unchanged n e f = (e, rw (← e, ne_eqb n 0 f))

    moves : (there : ℕ) → 0 ≡ step_refusal b s c → there ≡ step (book_machine b) s c → Answers 0 there
    unfolding step_state
    moves there e q = (e, rw (← e) q)

    number-refused : (n : ℕ) → n ≡ book_refusal b → (n ≡ 0 → ⊥) → n ≡ step_refusal b s c
    unfolding step_refusal
    number-refused n e f = rw (← e, ne_eqb n 0 f)

    number-outside : book_refusal b ≡ 0 → (state_holds b s && ltb c (width b) && is_state (step (book_machine b) s c)) ≡ false → 16 ≡ step_refusal b s c
    unfolding step_refusal
    number-outside e f = rw (e, f)

    number-taken : book_refusal b ≡ 0 → state_holds b s ≡ true → c < width b → is_state (step (book_machine b) s c) ≡ true → 0 ≡ step_refusal b s c
    unfolding step_refusal
    number-taken e h l q = rw (e, h, lt-ltb c (width b) l, q)

    pub step-refused : (n : ℕ) → n ≡ book_refusal b → (n ≡ 0 → ⊥) → Answers n s
    step-refused n e f = unchanged n (number-refused n e f) f

    pub step-outside : book_refusal b ≡ 0 → (state_holds b s && ltb c (width b) && is_state (step (book_machine b) s c)) ≡ false → Answers 16 s
    step-outside e f = unchanged 16 (number-outside e f) (λ z. omega arith)

    pub step-taken : (there : ℕ) → book_refusal b ≡ 0 → state_holds b s ≡ true → c < width b → there ≡ step (book_machine b) s c → (there ≡ 0 → ⊥) → Answers 0 there
    step-taken there e h l q f = moves there (number-taken e h l (ap is_state (sym q) ∙ is_state_law there (omega arith))) q

    -- the same for the check to find, by what the code has tested: the number, by the row that refuses the step, and the state
    pub step_by_book : 1 ≤ book_refusal b → step_refusal b s c ≡ book_refusal b
    step_by_book some = sym (number-refused (book_refusal b) refl (λ z. omega arith))

    pub step_by_state : 1 ≤ state_refusal b s → step_refusal b s c ≡ state_refusal b s
    unfolding step_refusal
    step_by_state some =
        sym (more_tests (book_refusal b) (state_holds b s) (state_holds b s && ltb c (width b) && is_state (step (book_machine b) s c)) (λ f. rw f) some)

    pub step_past_codes : 0 ≡ state_refusal b s → width b ≤ c → step_refusal b s c ≡ 16
    step_past_codes e beyond = sym (number-outside (state-passes s e) (simp (le-ltb c (width b) beyond, and-false)))

    to_entry : state_holds b s ≡ true → c < width b → step (book_machine b) s c ≡ entry b s c
    to_entry h l = step-is-entry b s c ((within-true 1 s (states b)).0 h).0 l

    pub step_to_none : 0 ≡ state_refusal b s → state_holds b s ≡ true → c < width b → entry b s c ≡ 0 → step_refusal b s c ≡ 16
    step_to_none e h l z = sym (number-outside (state-passes s e) (simp (ap is_state (to_entry h l ∙ z), and-false)))

    entry-taken : 0 ≡ state_refusal b s → state_holds b s ≡ true → c < width b → 1 ≤ entry b s c → Answers 0 (entry b s c)
    entry-taken e h l some = step-taken (entry b s c) (state-passes s e) h l (sym (to_entry h l)) (λ z. omega arith)

    pub step_possible : 0 ≡ state_refusal b s → state_holds b s ≡ true → c < width b → 1 ≤ entry b s c → step_refusal b s c ≡ 0
    step_possible e h l some = sym (entry-taken e h l some).0

    pub step_leads : 0 ≡ state_refusal b s → state_holds b s ≡ true → c < width b → 1 ≤ entry b s c → step_state b s c ≡ entry b s c
    step_leads e h l some = sym (entry-taken e h l some).1

    pub step_stays : 1 ≤ step_refusal b s c → step_state b s c ≡ s
    step_stays some = sym (unchanged (step_refusal b s c) refl (λ z. omega arith)).1

-- the cases of a step, and that a refusal's number is not 0
pub ruleset step_cases = (step_by_book, step_by_state, step_past_codes, step_to_none, step_possible, step_leads, step_stays, some_number)

pub ruleset open_cases = (open_by_book, open_closed, some_number)
