use Rattle.std.proofs.Common.{take}
use Rattle.sheet.specs.Shown.{finish_numeric}
use Rattle.sheet.proofs.Answered.{on_ok, whole_of}
use Rattle.sheet.proofs.hut.finish_stream.Goals as goal
use Rattle.lines.specs.Lines.{lines_of}

pub returns-clause-all : goal.returns-clause-all
returns-clause-all g c = on_ok (whole_of finish_numeric (λ input. lines_of (take 65536 input)) _ _ _) c.answer_lines.result c.answer_lines.ensures.all
