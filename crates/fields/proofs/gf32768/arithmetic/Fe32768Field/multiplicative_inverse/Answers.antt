use Rattle.std.proofs.Common.{◌≡◌, Ok, Err, sym, ap, ◌∙◌}
use Rattle.std.proofs.lemmas.Result.{err_from_is_err_and}
use Rattle.fields.specs.Gf32.{gf32}
use Rattle.fields.specs.Gf32768.{gf32768, fe32768_path}
use Rattle.fields.proofs.Answered.{inverse_ok, ok_inverse, inverse_err}
use Rattle.fields.proofs.Inverse32768.{determinant, determinant_zero, times_cofactors_is_one}
use Rattle.fields.proofs.gf32768.arithmetic.Fe32768Field.multiplicative_inverse.Goals as goal

pub returns-in_err-scale : goal.returns-in_err-scale
returns-in_err-scale c =
    let x = c.args.self in
    let is : c.add-determinant.result ≡ determinant x = cc in
    let fault = c.in_err-scale.field-0.0 in
    let err = err_from_is_err_and c.from_residual.result c.from_residual.ensures.1 in
    err.1 ∙ ap Err err.2 ∙ sym (inverse_err gf32 gf32768 c.add-determinant.result x fault (λ z. determinant_zero x (sym is ∙ z)) (sym c.in_err-scale.ensures))

pub returns : goal.returns
returns c =
    let x = c.args.self in
    let k = c.in_ok-scale.scale in
    let is : c.add-determinant.result ≡ determinant x = cc in
    let one = inverse_ok gf32 c.add-determinant.result k (sym c.in_ok-scale.ensures) in
    ap Ok (fe32768_path _ _ (cc) (cc) (cc)) ∙ sym (ok_inverse gf32768 x _ (times_cofactors_is_one x k (ap (λ t. gf32.mul t k) (sym is) ∙ one)))
