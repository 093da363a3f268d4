use Rattle.fields.proofs.Cursors.{ahead_skipped}
use Rattle.fields.proofs.cursor.Powers.skip.Goals as goal

pub returns : goal.returns
returns g c =
    ahead_skipped g.F.Field.field c.args.self.now c.args.n c.by_squaring.result c.mul-self.result
    c.by_squaring.ensures c.mul-self.ensures
