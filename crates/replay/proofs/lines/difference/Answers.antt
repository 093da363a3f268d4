use Rattle.std.proofs.Common.{rules}
use Rattle.replay.proofs.lines.difference.Goals as goal

pub returns-then-eq : goal.returns-then-eq
returns-then-eq g c =
    let r = c.in_ok-recorded.recorded in
    (r.command, r.owed.now, c.in_ok-ours.ours, search rules, search rules, search rules)

pub returns : goal.returns
returns g c =
    let r = c.in_ok-recorded.recorded in
    (r.command, r.owed.now, c.in_ok-ours.ours, search rules, search rules, search rules)
