use Rattle.std.proofs.Common.{◌≡◌, length}
use Rattle.sheet.proofs.Placing.{placed}
use Rattle.sheet.proofs.groups.write_groups.Given as goal

abbrev pub invariant-loop-i : goal.invariant-loop-i
invariant-loop-i l = (l.text ≡ placed l.case l.symbols l.i) × (length l.text ≡ 14)
