use Rattle.std.proofs.Common.{◌≡◌, ◌+◌, ◌<◌, length, ap, ◌∙◌, arith, rules}
use Rattle.algebra.specs.Poly.{coeff}
use Rattle.lists.proofs.Terms.{times_cut, term_more, term_past}
use Rattle.lists.proofs.products.product_term.Goals as goal
use Rattle.lists.proofs.products.product_term.Goals.{in-Some-get, in_default-get}

pub returns-in_default : goal.returns-in_default
returns-in_default g c =
    let F = g.F.Field.field in
    let past : c.args.n < c.loop-i.i = grind arith in
    c.loop-i.invariant.1 ∙ times_cut F c.args.p.now (coeff F c.args.q.now) c.args.n c.loop-i.i past

pub loop-i-preserved : goal.loop-i-preserved
loop-i-preserved g c =
    let F = g.F.Field.field in
    let p = c.args.p.now in
    let q = c.args.q.now in
    let n = c.args.n in
    let i = c.loop-i.i in
    let rest = c.in-Some.rest in
    let h : i < length p = omega arith in
    let e = c.in-Some.ensures in
    let k : i + rest ≡ n = omega arith in (
      omega arith,
      elim c.match-get.branch [
        | in-Some-get w ↦ w.sum-is ∙ term_more F p q n i rest c.loop-i.sum c.loop-i.invariant.1 h k c.index-p-i.result w.in-Some-get.b.now w.add-sum.result (search rules) c.index-p-i.is (search rules) (w.add-sum.ensures ∙ ap (F.add c.loop-i.sum) w.mul.ensures)
        | in_default-get w ↦ w.sum-is ∙ term_past F p q n i rest c.loop-i.sum c.loop-i.invariant.1 h k (search rules)
      ],
    )
