-- Histories: lists of codes (words over the codes), and when one is earlier than another (the shortlex order).
use Rattle.std.specs.Prelude.{◌≡◌, ◌⊎◌, List, [], ◌∷◌, ℕ, ◌<◌, length}

abbrev pub History : Type 0
History = List ℕ

-- "with the smaller code at the first difference"
abbrev pub Smaller : History → History → Type 0
Smaller [] k = ⊥
Smaller (c ∷ h) [] = ⊥
Smaller (c ∷ h) (d ∷ k) = (c < d) ⊎ ((c ≡ d) × Smaller h k)

-- "One history is earlier than another if it is shorter, or as long with the smaller code at the first difference"
abbrev pub Earlier : History → History → Type 0
Earlier h k = (length h < length k) ⊎ ((length h ≡ length k) × Smaller h k)

abbrev pub NotLater : History → History → Type 0
NotLater h k = Earlier h k ⊎ (h ≡ k)

-- h is the earliest of the histories with the property P
abbrev pub Earliest : (History → Type 0) → History → Type 0
Earliest P h = P h × ((k : History) → P k → NotLater h k)
