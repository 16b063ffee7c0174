-- Tests, folds and lists over the numbers below a bound, and two tests on lists. Each is stated by its first n turns, as a loop that counts up makes them.
use Rattle.std.specs.Prelude.{Bool, cond, true, false, ◌&&◌, ◌||◌, List, [], ◌∷◌, ◌++◌, ℕ, zero, suc, ◌+◌, eqb, ltb}

-- f holds at each number below n
abbrev pub all_below : ℕ → (ℕ → Bool) → Bool
all_below zero f = true
all_below (suc n) f = let last = f n in all_below n f && last

-- f holds at some number below n
abbrev pub any_below : ℕ → (ℕ → Bool) → Bool
any_below zero f = false
any_below (suc n) f = let last = f n in any_below n f || last

-- the lowest number below n at which f holds; n if there is none
abbrev pub lowest_below : ℕ → (ℕ → Bool) → ℕ
lowest_below zero f = 0
lowest_below (suc n) f =
    let before = lowest_below n f in
    let last = cond (f n) n (suc n) in
    cond (ltb before n) before last

-- f (n - 1) (.. (f 1 (f 0 a)))
abbrev pub fold_below {ℓ} : {A : Type ℓ} → ℕ → A → (ℕ → A → A) → A
fold_below zero a f = a
fold_below (suc n) a f = f n (fold_below n a f)

-- f 0, f 1, .., f (n - 1)
abbrev pub list_below {ℓ} : {A : Type ℓ} → ℕ → (ℕ → A) → List A
list_below zero f = []
list_below (suc n) f = list_below n f ++ (f n ∷ [])

-- two lists of numbers are equal
abbrev pub same_list : List ℕ → List ℕ → Bool
same_list [] [] = true
same_list [] (y ∷ ys) = false
same_list (x ∷ xs) [] = false
same_list (x ∷ xs) (y ∷ ys) = let rest = same_list xs ys in eqb x y && rest

-- 0 stays, any other number grows by one
abbrev pub suc_positive : ℕ → ℕ
suc_positive zero = 0
suc_positive (suc k) = suc (suc k)

-- the place of the first element at which f holds, counted from 1; 0 if there is none
abbrev pub place_of {ℓ} : {A : Type ℓ} → (A → Bool) → List A → ℕ
place_of f [] = 0
place_of f (x ∷ xs) = let rest = suc_positive (place_of f xs) in cond (f x) 1 rest

-- how many of the numbers below n pass
abbrev pub one : Bool → ℕ
one true = 1
one false = 0

abbrev pub count_below : ℕ → (ℕ → Bool) → ℕ
count_below zero f = 0
count_below (suc n) f = count_below n f + one (f n)
