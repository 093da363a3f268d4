use Rattle.std.proofs.Common.{◌≡◌}
use Rattle.algebra.specs.Field.{pow}
use Rattle.lists.proofs.Filled.{Filled}
use Rattle.lists.proofs.fieldvec.from_powers.Given as goal

abbrev pub invariant-loop-place : goal.invariant-loop-place
invariant-loop-place g l =
    let F = g.F.Field.field in
    Filled (pow F l.x) l.place-index l.initial.place-items l.place-items × (l.power ≡ pow F l.x l.place-index)
