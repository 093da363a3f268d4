use Rattle.std.proofs.Common.{take, arith}
use Rattle.checksum.proofs.Replaced.{mapped_more}
use Rattle.checksum.proofs.engine.Engine.negate.Goals as goal

pub loop-coefficient-preserved : goal.loop-coefficient-preserved
loop-coefficient-preserved g c =
    mapped_more g.C.SymbolField.Field.field.neg (take c.CHECKSUM_LENGTH.result c.self.inside.entries) c.loop-coefficient.coefficient-index (omega arith) c.loop-coefficient.residue
    c.loop-coefficient.invariant c.coefficient-item.result c.neg.result c.neg.ensures
