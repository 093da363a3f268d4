use Rattle.std.proofs.Common.{◌≡◌, ℕ, ◌<◌, get_or, length, ◌∙◌, ap₂, arith}
use Rattle.std.proofs.lemmas.List.{get_or_default}
use Rattle.algebra.specs.Poly.{coeff}
use Rattle.lists.proofs.Filled.{filled_more, filled_read}
use Rattle.lists.proofs.fieldvec.mul_assign_pointwise.Goals as goal

pub loop-i-preserved : goal.loop-i-preserved
loop-i-preserved g c =
    let F = g.F.Field.field in
    let p = c.args.list.now in
    let i = c.loop-i.i in
    let x = c.index-list-i.result in
    let product = λ (i : ℕ). F.mul (coeff F p i) (coeff F c.args.other.now i) in
    let inside : i < length p = omega arith in
    let read : get_or c.loop-i.list i x ≡ coeff F p i = filled_read product p i c.loop-i.list c.loop-i.invariant i x (omega arith) ∙ get_or_default p i x F.𝟘 inside in
    filled_more product p i c.loop-i.list c.loop-i.invariant c.mul.result inside (c.mul.ensures ∙ ap₂ F.mul read c.entry.ensures)
