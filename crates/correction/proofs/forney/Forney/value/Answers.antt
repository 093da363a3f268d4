use Rattle.std.proofs.Common.{sym, ap, ◌∙◌}
use Rattle.std.specs.Result.{result_ok}
use Rattle.correction.proofs.Values.{forney_is}
use Rattle.correction.proofs.forney.Forney.value.Goals as goal

pub returns : goal.returns
returns g c sloped =
    let f = c.args.self.now in
    simp (c.ok-2.ensures.value, c.quotient.ensures, c.neg.ensures, c.mul.ensures, c.mul-2.ensures, c.nth.ensures.answer, c.powers.ensures f.first)
    (forney_is g.E.Field.field f.evaluator.now f.derivative.now c.args.x c.unwrap-back.result c.unwrap-value.result c.in_ok-slope.slope f.first c.requires f.some
    (sym c.multiplicative_inverse.ensures ∙ c.unwrap-back.ensures) (sym c.evaluate.ensures ∙ c.unwrap-value.ensures)
    (ap result_ok (sym c.evaluate-2.ensures) ∙ sym c.ok.ensures.value ∙ c.in_ok-slope.was) sloped)
