use Rattle.std.proofs.Common.{◌∙◌, inl, inr, arith}
use Rattle.fields.proofs.Monoids.{turns}
use Rattle.fields.proofs.monoid.repeat.Goals as goal
use Rattle.fields.proofs.monoid.repeat.Goals.{then-left-eq1, else-left-eq1}

pub loop-left-preserved : goal.loop-left-preserved
loop-left-preserved g c =
    turns g.M.Monoid.laws c.loop-left.result c.loop-left.doubled c.if-left-eq1.result c.join-doubled.result c.loop-left.left
    (elim c.if-left-eq1.branch [
      | then-left-eq1 w ↦ inl (w.if-left-eq1.true, w.result-is ∙ w.join-result.ensures)
      | else-left-eq1 w ↦ inr (omega (arith, w.if-left-eq1.false), w.result-is)
    ])
    c.join-doubled.ensures
    ∙ c.loop-left.invariant
