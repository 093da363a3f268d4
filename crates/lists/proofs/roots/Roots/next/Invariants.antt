use Rattle.std.proofs.Common.{◌-◌}
use Rattle.lists.proofs.Searches.{HasPassed}
use Rattle.lists.proofs.roots.Roots.next.Given as goal

abbrev pub invariant-loop-self : goal.invariant-loop-self
invariant-loop-self g l =
    HasPassed g.F.Field.field l.list l.fn.self l.self-inside.base l.self-inside.order l.self-inside.next l.self-inside.power

abbrev pub decreases-loop-self : goal.decreases-loop-self
decreases-loop-self g l = l.self-inside.order - l.self-inside.next
