use Rattle.std.specs.Iterator.Adapters.{rev_source}
use Rattle.std.specs.Slice.Iter.{iter_rest}
use Rattle.correction.proofs.Doubted.{Doubted}
use Rattle.correction.proofs.locating.erasure_locator.Given as goal

abbrev pub invariant-loop-marked : goal.invariant-loop-marked
invariant-loop-marked g l =
    Doubted g.F.Field.field l.a l.marks (iter_rest (rev_source l.marked-iterator)) l.len l.power l.initial.list l.list
