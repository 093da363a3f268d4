-- Two lists combined entry by entry.
--   Computes      each call of the closure f answers what h gives
--   by_entries    what h gives for the entries at each place
use Rattle.std.specs.Prelude.{◌≡◌, max, List, length}
use Rattle.std.specs.Fn.{Shared}
use Rattle.algebra.specs.Field.{FieldOn}
use Rattle.algebra.specs.Poly.{tab, coeff}

abbrev pub Computes : {O A : Type 0} → Shared O (A × (A × Unit {0})) A → O → (A → A → A) → Type 0
Computes {A = A} g f h = (x y r : A) → g.post f (x, (y, tt)) r → r ≡ h x y

-- as long as the longer; what lies past an end is ZERO
abbrev pub by_entries : {A : Type 0} → FieldOn A → (A → A → A) → List A → List A → List A
by_entries F h p q = tab (max (length p) (length q)) (λ i. h (coeff F p i) (coeff F q i))
