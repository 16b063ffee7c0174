-- Requests: their numbers and the lists of their values correspond one to one. Codes: one at or above E is that of one request and one decision.
use mathlib.Core.Path.{◌≡◌}
use mathlib.Core.Logic.{◌⊎◌, inl, inr}
use mathlib.Core.List.{List}
use Prim.Native.Nat.{ℕ, zero, suc, ◌+◌, ◌-◌, ◌*◌, ◌%◌, ◌≤◌, ◌<◌}
use native.Mathlib.Omega.{arith}
use Rattle.definitions.specs.Policy.{fields, count, requests, request_number, value}
use Rattle.definitions.specs.Codes.{accept_code, reject_code, request_of, decision_of}
use Rattle.definitions.proofs.Radix.{product-some, high_below, high_digit_law, high_digit-below, high_number_law, high_unique}

module _ (p : List ℕ) where
  -- one value for each field is a request, and its number has these values
  pub request-number-below : (values : ℕ → ℕ) → ((f : ℕ) → f < fields p → values f < count p f) → request_number p values < requests p
  request-number-below values within = high_below (count p) (fields p) values within

  pub value_of_number : (values : ℕ → ℕ) → ((f : ℕ) → f < fields p → values f < count p f)
      → (f : ℕ) → f < fields p → value p (request_number p values) f ≡ values f
  value_of_number values within f l = high_digit_law (count p) (fields p) values within f l

  module _ (some : (f : ℕ) → f < fields p → 1 ≤ count p f) where
    -- a number below Q is that of the request with its values
    pub value-below : (r f : ℕ) → f < fields p → value p r f < count p f
    value-below r f l = high_digit-below (count p) (fields p) r f (some f l)

    pub number-of-values : (r : ℕ) → r < requests p → request_number p (value p r) ≡ r
    number-of-values r l = high_number_law (count p) (fields p) some r l

    -- requests with the same values are the same
    pub requests-same : (q r : ℕ) → q < requests p → r < requests p → ((f : ℕ) → f < fields p → value p q f ≡ value p r f) → q ≡ r
    requests-same q r lq lr same = high_unique (count p) (fields p) some q r lq lr same

    pub some_request_law : 1 ≤ requests p
    some_request_law = product-some (count p) (fields p) some

-- ---- codes
module _ (E : ℕ) where
  pub request_of_accept : (r : ℕ) → request_of E (accept_code E r) ≡ r
  request_of_accept r = omega arith

  pub request_of_reject : (r : ℕ) → request_of E (reject_code E r) ≡ r
  request_of_reject r = omega arith

  pub decision_of_accept : (r : ℕ) → decision_of E (accept_code E r) ≡ 1
  decision_of_accept r = omega arith

  pub decision_of_reject : (r : ℕ) → decision_of E (reject_code E r) ≡ 0
  decision_of_reject r = omega arith

  -- a code at or above E accepts or rejects its request, as its decision says
  pub code_of_request : (c : ℕ) → E ≤ c
      → ((decision_of E c ≡ 1) × (c ≡ accept_code E (request_of E c))) ⊎ ((decision_of E c ≡ 0) × (c ≡ reject_code E (request_of E c)))
  code_of_request c l = go ((c - E) % 2) (omega arith) (omega arith)
    where
      go : (b : ℕ) → b ≡ (c - E) % 2 → b < 2
          → ((decision_of E c ≡ 1) × (c ≡ accept_code E (request_of E c))) ⊎ ((decision_of E c ≡ 0) × (c ≡ reject_code E (request_of E c)))
      go zero e b = inl (omega arith, omega arith)
      go (suc zero) e b = inr (omega arith, omega arith)
      go (suc (suc n)) e b = absurd (omega arith)

  -- the codes below E + 2Q are those of the events and of the requests below Q
  pub request-below : (Q c : ℕ) → E ≤ c → c < E + 2 * Q → request_of E c < Q
  request-below Q c l b = omega arith

  pub accept_code-below : (Q r : ℕ) → r < Q → accept_code E r < E + 2 * Q
  accept_code-below Q r l = omega arith

  pub reject_code-below : (Q r : ℕ) → r < Q → reject_code E r < E + 2 * Q
  reject_code-below Q r l = omega arith
