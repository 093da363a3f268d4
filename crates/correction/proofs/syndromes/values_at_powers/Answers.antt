use Rattle.std.proofs.Common.{◌≡◌, suc, ◌+◌, map, ap, ◌∙◌, arith}
use Rattle.algebra.specs.Field.{pow}
use Rattle.algebra.specs.Poly.{eval}
use Rattle.lists.proofs.Filled.{filled_more}
use Rattle.correction.proofs.Values.{answer_is}
use Rattle.correction.proofs.syndromes.values_at_powers.Goals as goal

pub loop-value-preserved : goal.loop-value-preserved
loop-value-preserved g c =
    let F = g.E.Field.field in
    let a = c.args.a in
    let first = c.args.first in
    let j = c.loop-value.value-index in
    let list = map g.E.ExtensionField.lifted c.args.list.now in
    let next : suc (first + j) ≡ first + (j + 1) = omega arith in (
      filled_more (λ j. eval F list (pow F a (first + j))) c.args.out.now j c.loop-value.out c.loop-value.invariant.0 c.unwrap.result (omega arith)
          (answer_is c.requires c.evaluate_lifted.ensures c.unwrap.ensures ∙ ap (eval F list) c.loop-value.invariant.1),
      c.mul-power.ensures ∙ ap (F.mul a) c.loop-value.invariant.1 ∙ ap (pow F a) next,
    )
