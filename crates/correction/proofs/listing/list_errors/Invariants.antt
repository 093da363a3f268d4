use Rattle.std.proofs.Common.{map, length}
use Rattle.algebra.specs.Decode.{root_position}
use Rattle.algebra.specs.Field.{HasOrder}
use Rattle.correction.specs.Steps.Changes.{HasChangeAt}
use Rattle.correction.specs.Steps.Listing.{IsOnRow}
use Rattle.correction.proofs.Indices.{remaining_roots}
use Rattle.correction.proofs.Onward.{Onward}
use Rattle.lists.specs.Roots.{roots}
use Rattle.correction.proofs.listing.list_errors.Given as goal

abbrev pub invariant-loop-index : goal.invariant-loop-index
invariant-loop-index g l =
    let F = g.E.Field.field in
    HasOrder F l.forney.root l.order
    × Onward (IsOnRow l.len (HasChangeAt l.forney)) l.len (map (root_position l.order) (roots F l.locator l.forney.root l.order))
    l.initial.pattern (map (root_position l.order) (remaining_roots F l.locator l.roots)) l.pattern

abbrev pub decreases-loop-index : goal.decreases-loop-index
decreases-loop-index g l = length (remaining_roots g.E.Field.field l.locator l.roots)
