use Rattle.std.proofs.Common.{length}
use Rattle.algebra.specs.Poly.{coeff}
use Rattle.algebra.proofs.Berlekamp.{shortest}
use Rattle.lists.proofs.lfsr.berlekamp_massey.Goals as goal

pub returns-then-answer-n-clause-shortest : goal.returns-then-answer-n-clause-shortest
returns-then-answer-n-clause-shortest g c = shortest g.F.Field.field (coeff g.F.Field.field c.args.s.now) (length c.args.s.now)

pub returns-clause-shortest : goal.returns-clause-shortest
returns-clause-shortest g c = shortest g.F.Field.field (coeff g.F.Field.field c.args.s.now) (length c.args.s.now)
