-- What the cursors over powers have yet to answer.
--   power_ahead F p n      what the cursor p answers after n others
--   remaining_powers F r   all that the cursor r answers
use Rattle.std.specs.Prelude.{ℕ, suc, List, Some, None, Option}
use Rattle.algebra.specs.Field.{FieldOn, pow}
use Rattle.algebra.specs.Poly.{tab}
use Rattle.fields.specs.declared.cursor.Powers.{Powers}
use Rattle.fields.specs.declared.cursor.PowersRange.{PowersRange}

abbrev pub left_count : Option ℕ → ℕ
left_count None = 0
left_count (Some after) = suc after

module _ {A : Type 0} (F : FieldOn A) where
  abbrev pub power_ahead : Powers A → ℕ → A
  power_ahead p n = F.mul p.next (pow F p.base n)

  abbrev pub remaining_powers : PowersRange A → List A
  remaining_powers r = tab (left_count r.after) (power_ahead r.powers)
