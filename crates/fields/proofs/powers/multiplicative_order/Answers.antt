use Rattle.std.proofs.Common.{subst, refl, ◌∙◌}
use mathlib.Core.Path.{subst⁻¹}
use Rattle.std.proofs.lemmas.Option.{MatchOption-at_some}
use Rattle.algebra.proofs.Divisors.{Finds, finds_order}
use Rattle.fields.proofs.Equality.{equal, unequal}
use Rattle.fields.proofs.powers.multiplicative_order.Goals as goal

pub loop-divisors-init : goal.loop-divisors-init
loop-divisors-init g c =
    let F = g.F.Field.field in
    let nonzero = unequal (g.met.F.Field.equality c.args.x c.ZERO.result _ c.if-eq.ensures) refl (c.ZERO.ensures ∙ g.met.F.Field.zero_is) in
    let finds = finds_order F c.args.x g.F.Field.numbers g.F.Field.GENERATOR g.F.Field.MULTIPLICATIVE_ORDER g.met.F.Field.cyclic nonzero in
    subst⁻¹ (Finds F c.args.x) (c.iter-divisors.ensures.rest ∙ c.order_factors.ensures) finds

pub loop-divisors-preserved : goal.loop-divisors-preserved
loop-divisors-preserved g c =
    let more = MatchOption-at_some _ _ c.unwrap-divisor.result c.unwrap-divisor.ensures c.next.ensures.steps in
    let finds = subst (Finds g.F.Field.field c.args.x) more c.loop-divisors.invariant in
    finds.1 (unequal (g.met.F.Field.equality c.by_squaring.result c.ONE.result _ c.if-eq-2.ensures) c.by_squaring.ensures (c.ONE.ensures ∙ g.met.F.Field.one_is))

pub returns : goal.returns
returns g c =
    let more = MatchOption-at_some _ _ c.unwrap-divisor.result c.unwrap-divisor.ensures c.next.ensures.steps in
    let finds = subst (Finds g.F.Field.field c.args.x) more c.loop-divisors.invariant in
    finds.0 (equal (g.met.F.Field.equality c.by_squaring.result c.ONE.result _ c.if-eq-2.ensures) c.by_squaring.ensures (c.ONE.ensures ∙ g.met.F.Field.one_is))
