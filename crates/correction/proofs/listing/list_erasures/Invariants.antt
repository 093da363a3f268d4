use Rattle.std.proofs.Common.{length, drop}
use Rattle.algebra.specs.Rows.{positions}
use Rattle.correction.specs.Steps.Changes.{HasChangeAt}
use Rattle.correction.proofs.Onward.{Onward}
use Rattle.correction.proofs.listing.list_erasures.Given as goal

abbrev pub invariant-loop-place : goal.invariant-loop-place
invariant-loop-place g l =
    Onward (HasChangeAt l.forney) (length l.marks) (positions l.marks) l.initial.pattern (positions (drop l.place l.marks)) l.pattern
