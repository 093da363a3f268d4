use Rattle.std.proofs.Common.{◌≡◌, Ok, Err, sym, ap, ◌∙◌, ap₂}
use Rattle.std.proofs.lemmas.Result.{err_from_is_err_and}
use Rattle.fields.specs.Gf32.{gf32}
use Rattle.fields.specs.Gf1024.{gf1024, fe1024}
use Rattle.fields.proofs.Answered.{inverse_ok, ok_inverse, inverse_err}
use Rattle.fields.proofs.Inverse1024.{norm, norm_zero, times_conjugate}
use Rattle.fields.proofs.gf1024.arithmetic.Fe1024Field.multiplicative_inverse.Goals as goal

pub returns-in_err-scale : goal.returns-in_err-scale
returns-in_err-scale c =
    let x = c.args.self in
    let is : c.add-norm.result ≡ norm x = cc in
    let fault = c.in_err-scale.field-0.0 in
    let err = err_from_is_err_and c.from_residual.result c.from_residual.ensures.1 in
    err.1 ∙ ap Err err.2 ∙ sym (inverse_err gf32 gf1024 c.add-norm.result x fault (λ z. norm_zero x (sym is ∙ z)) (sym c.in_err-scale.ensures))

pub returns : goal.returns
returns c =
    let x = c.args.self in
    let k = c.in_ok-scale.scale in
    let is : c.add-norm.result ≡ norm x = cc in
    let one = inverse_ok gf32 c.add-norm.result k (sym c.in_ok-scale.ensures) in
    ap Ok (ap₂ fe1024 (cc) (cc)) ∙ sym (ok_inverse gf1024 x _ (times_conjugate x k (ap (λ t. gf32.mul t k) (sym is) ∙ one)))
