use Rattle.std.proofs.Common.{◌≡◌, ℕ, ◌+◌, refl, arith}
use Rattle.std.proofs.lemmas.List.{length-take-le}
use Rattle.algebra.specs.Poly.{tab, coeff}
use Rattle.algebra.specs.Series.{product_term}
use Rattle.lists.proofs.Filled.{filled_more}
use Rattle.lists.proofs.Fronts.{front_filled}
use Rattle.lists.proofs.products.series_product.Goals as goal

pub loop-j-preserved : goal.loop-j-preserved
loop-j-preserved g c =
    let F = g.F.Field.field in
    filled_more (λ j. product_term F c.args.p.now (coeff F c.args.q.now) (c.args.from + j)) _ c.loop-j.j c.loop-j.entry-items c.loop-j.invariant c.product_term.result c.loop-j-test.true c.product_term.ensures

pub returns : goal.returns
returns g c =
    let F = g.F.Field.field in
    let n = c.args.n in
    let f : ℕ → g.row.F.Denot = λ j. product_term F c.args.p.now (coeff F c.args.q.now) (c.args.from + j) in
    let front = length-take-le n c.args.out.now c.requires.room in
    let all : c.loop-j.j ≡ n = omega arith in
    front_filled f c.loop-j.j n (tab n f) c.args.out.now c.loop-j.entry-items c.requires.room all refl c.loop-j.invariant
