use Rattle.std.proofs.Common.{◌≡◌, ◌+◌, ◌≤◌, take}
use Rattle.algebra.specs.Poly.{coeff}
use Rattle.algebra.specs.Series.{product_term}
use Rattle.lists.proofs.products.product_term.Given as goal

abbrev pub invariant-loop-i : goal.invariant-loop-i
invariant-loop-i g l = let F = g.F.Field.field in (l.i ≤ l.n + 1) × (l.sum ≡ product_term F (take l.i l.p) (coeff F l.q) l.n)
