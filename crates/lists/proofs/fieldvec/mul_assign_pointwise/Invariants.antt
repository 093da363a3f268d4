use Rattle.algebra.specs.Poly.{coeff}
use Rattle.lists.proofs.Filled.{Filled}
use Rattle.lists.proofs.fieldvec.mul_assign_pointwise.Given as goal

abbrev pub invariant-loop-i : goal.invariant-loop-i
invariant-loop-i g l = let F = g.F.Field.field in Filled (λ i. F.mul (coeff F l.initial.list i) (coeff F l.other i)) l.i l.initial.list l.list
