use Rattle.std.proofs.Common.{◌≡◌, ◌+◌, min, length, sym, ◌∙◌, arith}
use Rattle.algebra.specs.Poly.{coeff}
use Rattle.algebra.specs.Series.{product_term}
use Rattle.algebra.proofs.Tab.{length_tab}
use Rattle.lists.specs.Lists.{degree, mul_mod_x_d}
use Rattle.lists.proofs.Filled.{refuses, refuses_list}
use Rattle.lists.proofs.products.mul_mod_x_d.Goals as goal

pub returns-in_err-n : goal.returns-in_err-n
returns-in_err-n g c =
    let F = g.F.Field.field in
    let p = c.args.a.now in
    let q = c.args.b.now in
    let d = c.args.d in
    let old = c.args.out.now in
    let cut : c.min-2.result ≡ min d (degree F p + degree F q + 2) = omega arith in
    let size : c.min-2.result ≡ length (mul_mod_x_d F p q d) = cut ∙ sym (length_tab (min d (degree F p + degree F q + 2)) (product_term F p (coeff F q))) in
    record {
      answer = refuses (min (length p) (length q)) (mul_mod_x_d F p q d) old c.admit.result c.min.result c.min-2.result c.admit.ensures.answer c.min.ensures size c.in_err-n.field-0.0 c.in_err-n.was c.from_residual.result c.from_residual.ensures.1;
      answered = refuses_list (min (length p) (length q)) (mul_mod_x_d F p q d) old c.admit.result c.min.result c.min-2.result c.admit.ensures.answer c.min.ensures size c.in_err-n.field-0.0 c.in_err-n.was;
    }
