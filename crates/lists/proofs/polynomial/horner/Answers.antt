use Rattle.std.proofs.Common.{◌≡◌, reverse, rules, ap, ◌∙◌}
use Rattle.std.specs.List.{fold}
use Rattle.std.proofs.lemmas.Iterator.Consumers.{fold_from_yields_List}
use Rattle.std.proofs.lemmas.Iterator.Adapters.{YieldsList-from_rev_slice}
use Rattle.lists.proofs.Values.{horner_step, horner_sum}
use Rattle.lists.proofs.polynomial.horner.Goals as goal

pub returns : goal.returns
returns g c = λ entry h.
    let F = g.F.Field.field in
    let step = horner_step F c.args.x entry in
    let summed : c.fold.result ≡ fold step c.ZERO.result (reverse c.args.list.now) =
    fold_from_yields_List _ step _ _ c.fold.ensures.ran (YieldsList-from_rev_slice c.args.list.now (search rules)) (λ a y b q k. search (rules, h)) in
    summed ∙ ap (λ z. fold step z (reverse c.args.list.now)) (c.ZERO.ensures ∙ g.met.F.Field.zero_is) ∙ horner_sum F c.args.x entry c.args.list.now
