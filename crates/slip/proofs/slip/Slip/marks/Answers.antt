use Rattle.slip.proofs.Memory.{can_hold}
use Rattle.slip.proofs.slip.Slip.marks.Goals as goal

pub returns-clause-holdable : goal.returns-clause-holdable
returns-clause-holdable c = can_hold c.self.inside c.args.self.now c.self.invariant c.self.view_is
