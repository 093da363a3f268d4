-- What the interface's functions answer, over a field and its numbers.
use Rattle.std.specs.Prelude.{ℕ, Some, None, Ok, Err, Option, Result}
use Rattle.std.proofs.Math.Decide.{dec_lt}
use Rattle.algebra.specs.Field.{FieldOn, Enumeration}
use Rattle.fields.specs.declared.fault.FieldFault.{FieldFault}
use Rattle.fields.specs.declared.fault.FieldFault.TheVariants.{Zero}

-- the inverse, refused for ZERO
abbrev pub inverse : {A : Type 0} → FieldOn A → A → Result A FieldFault
inverse F x = elim (F.dec_eq x F.𝟘) [ yes _ ↦ Err Zero | no _ ↦ Ok (F.inv x) ]

-- the element that a number stands for, none from the size on
abbrev pub from_number : {A : Type 0} → Enumeration A → ℕ → Option A
from_number N n = elim (dec_lt n N.size) [ yes _ ↦ Some (N.element n) | no _ ↦ None ]
