use Rattle.std.proofs.Common.{◌≡◌, ap, arith, ◌∙◌}
use Rattle.std.proofs.lemmas.Grind.{common_steps}
use Rattle.std.proofs.lemmas.Option.{gets}
use Rattle.std.specs.List.{slice_get}
use Rattle.std.specs.Option.{ok_or}
use Rattle.lists.specs.declared.fault.ListFault.TheVariants.{Empty}
use Rattle.lists.proofs.Degrees.{leading_found}
use Rattle.lists.proofs.polynomial.leading_term.Goals as goal

pub returns : goal.returns
returns g c =
    let p = c.args.list.now in
    let read : c.copied.result ≡ slice_get p c.top_power.result = grind (arith, common_steps, gets) in
    c.ok_or.ensures.value ∙ ap (λ o. ok_or o Empty) (read ∙ ap (slice_get p) c.top_power.ensures) ∙ leading_found g.F.Field.field p
