use Rattle.algebra.specs.Poly.{coeff}
use Rattle.lists.specs.Steps.Combined.{Computes}
use Rattle.lists.proofs.Filled.{Filled}
use Rattle.lists.proofs.fieldvec.combined.Given as goal

abbrev pub invariant-loop-i : goal.invariant-loop-i
invariant-loop-i g l =
    let F = g.F.Field.field in
    (h : _) → Computes g.O.Fn l.of h → Filled (λ i. h (coeff F l.a i) (coeff F l.b i)) l.i l.initial.place-items l.place-items
