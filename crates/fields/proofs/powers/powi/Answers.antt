use Rattle.std.proofs.Common.{◌∙◌}
use Rattle.std.proofs.lemmas.Int.{to_z-of_z}
use Rattle.fields.proofs.Exponents.{power_negative}
use Rattle.fields.proofs.powers.powi.Goals as goal

pub returns-then-n-lt0 : goal.returns-then-n-lt0
returns-then-n-lt0 g c =
    let fits = c.ranges.n in
    let below = simp to_z-of_z at c.if-n-lt0.true in
    let least = c.if-n-eqminus9223372036854775808.false in
    (simp to_z-of_z at c.inverse_power.ensures) ∙ power_negative g.F.Field.field c.args.x c.args.n fits below least
