use Rattle.fields.proofs.Cursors.{answer_skipped}
use Rattle.fields.proofs.cursor.Powers.nth.Goals as goal

pub returns-clause-answer : goal.returns-clause-answer
returns-clause-answer g c =
    answer_skipped g.F.Field.field c.args.self.now c.skip.new.self c.args.n c.skip.ensures c.next.result c.next.ensures.answer
