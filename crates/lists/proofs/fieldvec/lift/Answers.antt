use Rattle.std.proofs.Common.{◌≡◌, ◌<◌, ◌++◌, map, length, take, drop, sym, refl, ap, ◌∙◌, arith}
use Rattle.std.proofs.lemmas.List.{get_or_default, length-map, length-take}
use Rattle.algebra.specs.Poly.{coeff}
use Rattle.lists.proofs.Places.{tab_map}
use Rattle.lists.proofs.Filled.{filled_more, filled_whole, accepts_list}
use Rattle.lists.proofs.fieldvec.lift.Goals as goal

pub loop-i-preserved : goal.loop-i-preserved
loop-i-preserved g c =
    let B = g.E.BaseField.Field.field in
    let up = g.E.ExtensionField.lifted in
    let p = c.args.list.now in
    let i = c.loop-i.i in
    let holds = c.in_ok-n.ensures.holds in
    let x = c.index-list-i.result in
    let inside : i < length p = omega (arith, length-take c.in_ok-n.n c.args.out.now) in
    let read : x ≡ coeff B p i = c.index-list-i.is ∙ get_or_default p i x B.𝟘 inside in
    filled_more (λ i. up (coeff B p i)) _ i c.loop-i.place-items c.loop-i.invariant c.lift.result (omega arith) (c.lift.ensures ∙ ap up read)

pub returns-clause-answered : goal.returns-clause-answered
returns-clause-answered g c =
    let B = g.E.BaseField.Field.field in
    let up = g.E.ExtensionField.lifted in
    let p = c.args.list.now in
    let old = c.args.out.now in
    let n = c.in_ok-n.n in
    let holds = c.in_ok-n.ensures.holds in
    let cut : length (take n old) ≡ n = omega (arith, length-take n old) in
    let all = filled_whole (λ i. up (coeff B p i)) c.loop-i.i n (take n old) c.loop-i.place-items (omega arith) cut c.loop-i.invariant ∙ tab_map B up p n holds.0 in
    accepts_list (length p) (map up p) old c.admit.result (length p) (length p) c.admit.ensures.answer refl (sym (length-map p up)) n _ c.in_ok-n.was
    (ap (λ w. w ++ drop n old) all)
