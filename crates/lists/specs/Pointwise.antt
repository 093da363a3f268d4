-- Lists entry by entry.
use Rattle.std.specs.Prelude.{List, length}
use Rattle.algebra.specs.Field.{FieldOn}
use Rattle.algebra.specs.Poly.{tab, coeff}

-- products entry by entry, as long as the first; what lies past an end is ZERO
abbrev pub pointwise : {A : Type 0} → FieldOn A → List A → List A → List A
pointwise F p q = tab (length p) (λ i. F.mul (coeff F p i) (coeff F q i))
