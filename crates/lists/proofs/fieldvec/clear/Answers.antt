use Rattle.std.proofs.Common.{◌≡◌, length, replicate, append-nil, arith, rules}
use Rattle.std.proofs.lemmas.List.{drop_all}
use Rattle.lists.proofs.Filled.{filled_with}
use Rattle.lists.proofs.fieldvec.clear.Goals as goal

pub returns : goal.returns
returns g c =
    let zero = g.F.Field.field.𝟘 in
    let ran = c.fill_with.ensures.ran in
    let filled : c.fill_with.new.self ≡ replicate (length c.fill_with.new.self) zero = filled_with _ _ zero (λ x f k. search rules) c.fill_with.new.self ran.0 ran.1 in
    grind (arith, filled, c.fill_with.ensures.len, drop_all, append-nil)
