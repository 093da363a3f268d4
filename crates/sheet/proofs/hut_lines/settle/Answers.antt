use Rattle.sheet.proofs.hut_lines.settle.Goals as goal

pub returns-clause-decided : goal.returns-clause-decided
returns-clause-decided c = c.call.ensures.decided
