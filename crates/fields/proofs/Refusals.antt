-- What an inverse and a number answer on each side.
use Rattle.std.proofs.Common.{◌≡◌, ℕ, ◌<◌, Some, None, Ok, Err, Result, refl}
use native.Mathlib.Decide.{dec_lt}
use Rattle.algebra.specs.Field.{FieldOn, Enumeration}
use Rattle.fields.specs.Elements.{inverse, from_number}
use Rattle.fields.specs.declared.fault.FieldFault.{FieldFault}
use Rattle.fields.specs.declared.fault.FieldFault.TheVariants.{Zero}

pub inverse_of_zero : {A : Type 0} (F : FieldOn A) (x : A) → x ≡ F.𝟘 → inverse F x ≡ Err Zero
inverse_of_zero {A = A} F x e = by (F.dec_eq x F.𝟘)
  where
    by : (d : Dec (x ≡ F.𝟘)) → ◌≡◌ {A = Result A FieldFault} (elim d [ yes _ ↦ Err Zero | no _ ↦ Ok (F.inv x) ]) (Err Zero)
    by (yes _) = refl
    by (no n) = absurd (n e)

pub inverse_of_other : {A : Type 0} (F : FieldOn A) (x : A) → ¬ (x ≡ F.𝟘) → inverse F x ≡ Ok (F.inv x)
inverse_of_other {A = A} F x n = by (F.dec_eq x F.𝟘)
  where
    by : (d : Dec (x ≡ F.𝟘)) → ◌≡◌ {A = Result A FieldFault} (elim d [ yes _ ↦ Err Zero | no _ ↦ Ok (F.inv x) ]) (Ok (F.inv x))
    by (yes e) = absurd (n e)
    by (no _) = refl

pub numbered_below : {A : Type 0} (N : Enumeration A) (n : ℕ) → n < N.size → from_number N n ≡ Some (N.element n)
numbered_below N n h = by (dec_lt n N.size)
  where
    by : (d : Dec (n < N.size)) → elim d [ yes _ ↦ Some (N.element n) | no _ ↦ None ] ≡ Some (N.element n)
    by (yes _) = refl
    by (no g) = absurd (g h)
