use Rattle.std.proofs.Common.{take, Ok}
use Rattle.std.specs.Fmt.{DisplaysOnOk}
use Rattle.replay.specs.Elements.{commas_before}
use Rattle.replay.proofs.commas.WithCommasDisplay.fmt.Given as goal

-- the items so far are written behind the first
abbrev pub invariant-loop-item : goal.invariant-loop-item
invariant-loop-item g l =
    DisplaysOnOk g.W.Write.write_str_gives l.initial.f (Ok tt) (commas_before g.T.Display.output (take l.item-index l.rest)) l.f
