use Rattle.std.proofs.Common.{◌≡◌, refl, arith, rules, ◌∙◌}
use Rattle.lists.specs.Lists.{degree}
use Rattle.lists.proofs.Degrees.{degree_found}
use Rattle.lists.proofs.polynomial.top_power.Goals as goal

pub returns : goal.returns
returns g c =
    let F = g.F.Field.field in
    let found : c.unwrap_or.result ≡ degree F c.args.list.now =
    c.unwrap_or.ensures ∙ degree_found F c.args.list.now (λ a. g.F.PartialEq.eq a F.𝟘) (λ a. g.met.F.Field.equality a F.𝟘 _ refl) c.rposition.result (search rules) in
    search (arith, found)
