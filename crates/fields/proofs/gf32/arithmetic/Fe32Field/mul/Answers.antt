use Rattle.std.proofs.Common.{◌≡◌, sym, ◌∙◌, ap₂, inl, inr}
use Rattle.fields.specs.Binary.{binary_product}
use Rattle.fields.specs.Laws.Binary.{product_comm}
use Rattle.fields.specs.Gf32.{gf32, fe_path}
use Rattle.fields.proofs.Logarithms.{power_sum, zero_product}
use Rattle.fields.proofs.gf32.arithmetic.Fe32Field.mul.Goals as goal

pub returns : goal.returns
unfolding gf32
returns c =
    let a = c.logarithm in
    let b = c.logarithm-2 in
    let factors = ap₂ binary_product (a.ensures.power c.if-self-eq0.false) (b.ensures.power c.if-other-eq0.false) in
    fe_path _ _ (c.power_of_t.ensures ∙ power_sum a.result b.result a.ensures.below b.ensures.below ∙ factors)

pub returns-then-self-eq0 : goal.returns-then-self-eq0
unfolding gf32
returns-then-self-eq0 c =
    let x = c.args.self in
    let y = c.args.other in
    let zero : binary_product x.value y.value ≡ 0 =
    elim c.then-self-eq0.either [
      | inl e ↦ zero_product x.value y.value e y.ok
      | inr e ↦ product_comm x.value y.value x.ok y.ok ∙ zero_product y.value x.value e.1 x.ok
    ] in
    fe_path _ _ (sym zero)
