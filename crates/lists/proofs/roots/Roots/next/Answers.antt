use Rattle.std.proofs.Common.{◌≡◌, Ok, sym, ap, ◌∙◌, arith}
use Rattle.std.proofs.lemmas.Bool.Decides.{not_from_Decides}
use Rattle.std.proofs.lemmas.Grind.{common_steps}
use Rattle.lists.proofs.Searches.{found, passed_more}
use Rattle.lists.proofs.roots.Roots.next.Goals as goal

pub returns-then-eq-clause-answer : goal.returns-then-eq-clause-answer
returns-then-eq-clause-answer g c =
    let F = g.F.Field.field in
    let p = c.args.list.now in
    let equal = g.met.F.Field.equality c.value_at.result c.ZERO.result c.eq.result c.eq.ensures in
    let zero : c.value_at.result ≡ F.𝟘 = equal.0 c.if-eq.true ∙ c.ZERO.ensures ∙ g.met.F.Field.zero_is in
    ap Ok (found F c.loop-self.invariant c.loop-self-test.true c.value_at.ensures zero)
    ∙ grind (arith, common_steps)

pub loop-self-preserved : goal.loop-self-preserved
loop-self-preserved g c =
    let F = g.F.Field.field in
    let equal = g.met.F.Field.equality c.value_at.result c.ZERO.result c.eq.result c.eq.ensures in
    let other : ¬ (c.value_at.result ≡ F.𝟘) = λ z. not_from_Decides c.eq.result equal c.if-eq.false (z ∙ sym (c.ZERO.ensures ∙ g.met.F.Field.zero_is)) in
    passed_more F c.loop-self.invariant c.loop-self-test.true c.value_at.ensures c.mul-self-inside.result c.mul-self-inside.ensures other
