use Rattle.std.proofs.Common.{◌≡◌, ◌+◌, ◌-◌, ◌<◌, ◌++◌, length, drop, refl, ap, ◌∙◌, ap₂, arith}
use Rattle.algebra.specs.Poly.{tab, coeff}
use Rattle.algebra.specs.Series.{product_term}
use Rattle.lists.specs.Lists.{degree, convolution}
use Rattle.lists.proofs.Filled.{refuses, refuses_list, accepts, accepts_list}
use Rattle.lists.proofs.Tabulated.{convolved_size, terms}
use Rattle.lists.proofs.products.convolution.Goals as goal

pub returns-in_err-n : goal.returns-in_err-n
returns-in_err-n g c =
    let F = g.F.Field.field in
    let p = c.args.a.now in
    let s = c.args.s.now in
    let old = c.args.out.now in
    let many = c.saturating_sub-terms.ensures ∙ ap (λ k. length s - k) c.top_power-power.ensures in
    let size = c.max.ensures ∙ convolved_size F p s c.saturating_sub-terms.result many in
    record {
      answer = refuses (length p) (convolution F p s) old c.admit.result (length p) c.max.result c.admit.ensures.answer refl size c.in_err-n.field-0.0 c.in_err-n.was c.from_residual.result c.from_residual.ensures.1;
      answered = refuses_list (length p) (convolution F p s) old c.admit.result (length p) c.max.result c.admit.ensures.answer refl size c.in_err-n.field-0.0 c.in_err-n.was;
    }

pub returns : goal.returns
returns g c =
    let F = g.F.Field.field in
    let p = c.args.a.now in
    let s = c.args.s.now in
    let old = c.args.out.now in
    let n = c.in_ok-n.n in
    let holds = c.in_ok-n.ensures.holds in
    let k = c.saturating_sub-terms.result in
    let many : k ≡ length s - degree F p = c.saturating_sub-terms.ensures ∙ ap (λ k. length s - k) c.top_power-power.ensures in
    let size = c.max.ensures ∙ convolved_size F p s k many in
    let some : 0 < length s - degree F p = omega arith in
    let all : k ≡ n = omega arith in
    let list : tab k (λ j. product_term F p (coeff F s) (c.top_power-power.result + j)) ≡ convolution F p s =
    ap₂ (λ m d. tab m (λ j. product_term F p (coeff F s) (d + j))) many c.top_power-power.ensures ∙ terms F (length s - degree F p) (λ j. product_term F p (coeff F s) (degree F p + j)) some in
    record {
      answer = accepts (length p) (convolution F p s) old c.admit.result (length p) c.max.result c.admit.ensures.answer refl size n c.in_ok-n.was;
      answered =
          accepts_list (length p) (convolution F p s) old c.admit.result (length p) c.max.result c.admit.ensures.answer refl size n c.series_product.new.out c.in_ok-n.was
          (c.series_product.ensures ∙ ap₂ (λ t m. t ++ drop m old) list all);
    }
