use Rattle.fields.proofs.Cursors.{coming_skipped, answer_nth, rest_nth}
use Rattle.fields.proofs.cursor.PowersRange.nth.Goals as goal

pub returns : goal.returns
returns g c =
    let F = g.F.Field.field in
    let r = c.args.self.now in
    let n = c.args.n in
    let skipped = coming_skipped F r c.in_ok-self.field-0 c.in_ok-self.was c.skip.new.self c.checked_sub-self.result n c.checked_sub-self.ensures c.skip.ensures in
    let step = c.next.ensures.steps in
    record {
      answer = answer_nth F r _ c.next.new.self n skipped c.next.result step;
      rest = rest_nth F r _ c.next.new.self n skipped c.next.result step;
    }
