use Rattle.algebra.specs.Poly.{coeff}
use Rattle.lists.proofs.Filled.{Filled}
use Rattle.lists.proofs.fieldvec.lift.Given as goal

abbrev pub invariant-loop-i : goal.invariant-loop-i
invariant-loop-i g l = let B = g.E.BaseField.Field.field in Filled (λ i. g.E.ExtensionField.lifted (coeff B l.list i)) l.i l.initial.place-items l.place-items
