use Rattle.std.proofs.Common.{◌≡◌, ◌+◌, map}
use Rattle.algebra.specs.Field.{pow}
use Rattle.algebra.specs.Poly.{eval}
use Rattle.lists.proofs.Filled.{Filled}
use Rattle.correction.proofs.syndromes.values_at_powers.Given as goal

abbrev pub invariant-loop-value : goal.invariant-loop-value
invariant-loop-value g l =
    let F = g.E.Field.field in
    Filled (λ j. eval F (map g.E.ExtensionField.lifted l.list) (pow F l.a (l.first + j))) l.value-index l.initial.out l.out
    × (l.power ≡ pow F l.a (l.first + l.value-index))
