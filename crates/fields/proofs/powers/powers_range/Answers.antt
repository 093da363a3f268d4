use Rattle.fields.proofs.Cursors.{coming_range}
use Rattle.fields.proofs.powers.powers_range.Goals as goal

pub returns : goal.returns
returns g c =
    coming_range g.F.Field.field c.args.x c.by_squaring.result c.args.first c.args.last c.checked_sub.result
    c.by_squaring.ensures c.checked_sub.ensures
