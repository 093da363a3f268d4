use Rattle.std.proofs.Common.{◌+◌}
use Rattle.algebra.specs.Poly.{coeff}
use Rattle.algebra.specs.Series.{product_term}
use Rattle.lists.proofs.Filled.{Filled}
use Rattle.lists.proofs.products.series_product.Given as goal

abbrev pub invariant-loop-j : goal.invariant-loop-j
invariant-loop-j g l = let F = g.F.Field.field in Filled (λ j. product_term F l.p (coeff F l.q) (l.from + j)) l.j l.initial.entry-items l.entry-items
