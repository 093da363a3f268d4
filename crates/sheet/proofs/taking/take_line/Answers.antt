use Rattle.std.proofs.Common.{true, sym, ◌∙◌}
use Rattle.sheet.specs.Taking.{before_slash, line_case, take_line}
use Rattle.sheet.proofs.BytesTaken.{refused}
use Rattle.sheet.proofs.ByPieces.{taken_by_bytes}
use Rattle.sheet.proofs.CallsMade.{line_leads, only_wiped}
use Rattle.sheet.proofs.FirstBad.{barred}
use Rattle.sheet.proofs.taking.take_line.Goals as goal

pub returns-clause-leads : goal.returns-clause-leads
returns-clause-leads c = line_leads c.args.line.now c.args.slip.now _ _ c.take.ensures.answer c.take.ensures.book

pub returns-clause-wiped : goal.returns-clause-wiped
returns-clause-wiped c = only_wiped c.args.line.now c.args.slip.now _ _ c.take.ensures.answer c.take.ensures.book

pub returns-clause-barred : goal.returns-clause-barred
returns-clause-barred c fault err =
    let line = c.args.line.now in
    let groups = before_slash line in
    barred (line_case groups) groups fault (sym (taken_by_bytes line) ∙ refused (take_line true line) fault (sym err ∙ c.take.ensures.answer))
