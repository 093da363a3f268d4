use Rattle.std.proofs.Common.{◌-◌, [], ◌∷◌, length, take, sym, ap, ◌∙◌, arith}
use Rattle.std.proofs.lemmas.List.{take_at}
use Rattle.std.proofs.lemmas.Option.{MatchOption-at_some}
use Rattle.algebra.specs.Series.{times_linear}
use Rattle.correction.proofs.Linear.{turned_more, turned_all}
use Rattle.correction.proofs.locating.times_linear.Goals as goal

pub loop-entry-preserved : goal.loop-entry-preserved
loop-entry-preserved g c =
    rw (c.replace-below.ensures.value, c.replace-below.ensures.after)
    (turned_more c.loop-entry.invariant c.loop-entry-test.true c.entry-item.is c.mul.ensures c.difference-next.ensures)

pub returns : goal.returns
returns g c =
    let below_top = length c.args.list.now - 1 in
    let parts = MatchOption-at_some _ _ _ c.unwrap.ensures c.split_last_mut.ensures.cases in
    turned_all c.loop-entry.invariant c.loop-entry-test.false (omega arith) (c.ZERO.ensures ∙ g.met.F.Field.zero_is) c.mul-2.ensures c.difference.ensures
    ∙ sym (ap (times_linear g.F.Field.field c.args.x) (ap (take below_top) parts.0 ∙ take_at c.unwrap.result.1.now (c.unwrap.result.0.now ∷ []) below_top (omega arith)))
