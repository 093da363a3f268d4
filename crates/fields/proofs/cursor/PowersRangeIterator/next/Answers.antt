use Rattle.std.proofs.Common.{length, ap, arith}
use Rattle.fields.proofs.Cursors.{coming_stepped}
use Rattle.fields.proofs.cursor.PowersRangeIterator.next.Goals as goal

pub returns : goal.returns
returns g c =
    let F = g.F.Field.field in
    let r = c.args.self.now in
    let stepped =
    coming_stepped F r c.in_ok-after.after c.in_ok-after.was c.next.result c.next.new.self c.checked_sub-self.result
    c.next.ensures.answer c.checked_sub-self.ensures c.next.ensures.rest in
    record { steps = stepped; goes = record { on = λ _. (tt, tt, omega (arith, ap length stepped)); keeps = tt; rests = λ _. tt } }
