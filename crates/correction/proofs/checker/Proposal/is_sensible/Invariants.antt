use Rattle.std.proofs.Common.{◌↔◌, length}
use Rattle.correction.specs.MendingSteps.Checked.{IsSensible}
use Rattle.correction.proofs.checker.Proposal.is_sensible.Given as goal

-- all are sensible exactly if the rest are
abbrev pub invariant-loop-record : goal.invariant-loop-record
invariant-loop-record g l = IsSensible l.self.slip.now g.C.Checksum.rows.size l.nothing l.rest ↔ IsSensible l.self.slip.now g.C.Checksum.rows.size l.nothing l.self.records.now

abbrev pub decreases-loop-record : goal.decreases-loop-record
decreases-loop-record g l = length l.rest
