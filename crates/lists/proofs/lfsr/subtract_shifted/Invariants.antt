use Rattle.std.proofs.Common.{◌≡◌, ◌+◌, ◌-◌, length, take}
use borrow.Rule.Slice.PartMut.{put_mid}
use Rattle.algebra.specs.Register.{updated_list}
use Rattle.lists.proofs.lfsr.subtract_shifted.Given as goal

abbrev pub invariant-loop-i : goal.invariant-loop-i
invariant-loop-i g l = put_mid l.x (l.x + length l.old - l.x) l.fn.conn l.entry-items ≡ updated_list g.F.Field.field l.fn.conn l.c l.x (take l.i l.old)
