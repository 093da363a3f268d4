use Rattle.std.proofs.Common.{◌≡◌}
use Rattle.fields.specs.Monoid.{repeat}
use Rattle.fields.proofs.monoid.repeat.Given as goal

abbrev pub invariant-loop-left : goal.invariant-loop-left
invariant-loop-left g l =
    let m = g.M.Monoid in
    m.op l.result (repeat m.neutral m.op l.doubled l.left) ≡ repeat m.neutral m.op l.initial.doubled l.initial.left

abbrev pub decreases-loop-left : goal.decreases-loop-left
decreases-loop-left g l = l.left
