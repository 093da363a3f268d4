use Rattle.std.proofs.Common.{ap, ◌∙◌, rules}
use Rattle.std.proofs.lemmas.List.{map-id}
use Rattle.algebra.specs.Poly.{eval}
use Rattle.lists.proofs.polynomial.value_at.Goals as goal

pub returns : goal.returns
returns g c = c.horner.ensures (λ y. y) (λ y r e. search rules) ∙ ap (λ p. eval g.F.Field.field p c.args.x) (map-id c.args.list.now)
