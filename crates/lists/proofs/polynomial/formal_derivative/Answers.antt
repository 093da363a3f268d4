use Rattle.std.proofs.Common.{◌≡◌, suc, ◌+◌, ◌<◌, length, refl, ap, ◌∙◌, ap₂, add-one, arith}
use Rattle.std.proofs.lemmas.List.{get_or_default, length-take-le}
use Rattle.algebra.specs.Field.{multiple}
use Rattle.algebra.specs.Poly.{tab, coeff}
use Rattle.lists.specs.Lists.{formal_derivative}
use Rattle.lists.proofs.Degrees.{degree_below, derived, length_derivative}
use Rattle.lists.proofs.Fronts.{front_filled}
use Rattle.lists.proofs.Filled.{filled_more, refuses, refuses_list, accepts, accepts_list}
use Rattle.lists.proofs.polynomial.formal_derivative.Goals as goal

pub returns-in_err-n : goal.returns-in_err-n
returns-in_err-n g c =
    let F = g.F.Field.field in
    let p = c.args.list.now in
    let old = c.args.out.now in
    let size = c.top_power.ensures ∙ length_derivative F p in
    record {
      answer = refuses (length p) (formal_derivative F p) old c.admit.result (length p) c.top_power.result c.admit.ensures.answer refl size c.in_err-n.field-0.0 c.in_err-n.was c.from_residual.result c.from_residual.ensures.1;
      answered = refuses_list (length p) (formal_derivative F p) old c.admit.result (length p) c.top_power.result c.admit.ensures.answer refl size c.in_err-n.field-0.0 c.in_err-n.was;
    }

pub offset_bounds-list-i : goal.offset_bounds-list-i
offset_bounds-list-i g c =
    let holds = c.in_ok-n.ensures.holds in
    omega (arith, degree_below g.F.Field.field c.args.list.now, length-take-le c.in_ok-n.n c.args.out.now holds.1)

pub bounds-list-i : goal.bounds-list-i
bounds-list-i g c =
    let holds = c.in_ok-n.ensures.holds in
    omega (arith, degree_below g.F.Field.field c.args.list.now, length-take-le c.in_ok-n.n c.args.out.now holds.1)

pub loop-i-preserved : goal.loop-i-preserved
loop-i-preserved g c =
    let F = g.F.Field.field in
    let p = c.args.list.now in
    let i = c.loop-i.i in
    let holds = c.in_ok-n.ensures.holds in
    let front = length-take-le c.in_ok-n.n c.args.out.now holds.1 in
    let y = c.index-list-i.result in
    let below = degree_below F p in
    let inside : i + 1 < length p = omega arith in
    let read : y ≡ coeff F p (suc i) = c.index-list-i.is ∙ get_or_default p (i + 1) y F.𝟘 inside ∙ ap (coeff F p) (add-one i) in
    filled_more (derived F p) _ i c.loop-i.entry-items c.loop-i.invariant c.multiple.result c.loop-i-test.true
    (c.multiple.ensures ∙ ap₂ (multiple F) read (add-one i))

pub returns : goal.returns
returns g c =
    let F = g.F.Field.field in
    let p = c.args.list.now in
    let old = c.args.out.now in
    let n = c.in_ok-n.n in
    let size = c.top_power.ensures ∙ length_derivative F p in
    let holds = c.in_ok-n.ensures.holds in
    let front = length-take-le n old holds.1 in
    let all : c.loop-i.i ≡ n = omega arith in
    record {
      answer = accepts (length p) (formal_derivative F p) old c.admit.result (length p) c.top_power.result c.admit.ensures.answer refl size n c.in_ok-n.was;
      answered =
          accepts_list (length p) (formal_derivative F p) old c.admit.result (length p) c.top_power.result c.admit.ensures.answer refl size n _ c.in_ok-n.was
          (front_filled (derived F p) c.loop-i.i n (formal_derivative F p) old c.loop-i.entry-items holds.1 all (ap (λ m. tab m (derived F p)) (holds.0 ∙ c.top_power.ensures)) c.loop-i.invariant);
    }
