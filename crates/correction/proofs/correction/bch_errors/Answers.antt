use Rattle.std.proofs.Common.{length, subst, sym}
use Rattle.algebra.specs.NumericCode.{NumericCode}
use Rattle.slip.proofs.Below.{row_below}
use Rattle.correction.specs.Proposals.{Proposes}
use Rattle.correction.proofs.Nearby.{proposes}
use Rattle.correction.proofs.correction.bch_errors.Goals as goal

pub returns-clause-proposes : goal.returns-clause-proposes
returns-clause-proposes g c =
    let N = g.C.SymbolField.Field.numbers in
    let slip = c.args.slip.now in
    subst (λ (rows : NumericCode). Proposes rows slip (length c.args.work.now) c.propose-proposal.result) (sym g.met.C.Checksum.rows_are) (λ n short long near.
    proposes N g.C.SymbolField.Field.field g.C.CorrectionField.Field.field g.C.CorrectionField.ExtensionField.lifted c.lift_laws.ensures g.C.Checksum.code c.laws.ensures.lawful
    g.C.CorrectionField.Field.numbers g.C.CorrectionField.Field.GENERATOR g.C.CorrectionField.Field.MULTIPLICATIVE_ORDER g.met.C.CorrectionField.Field.cyclic
    slip (row_below N.size c.laws.ensures.alphabet slip c.propose-proposal.ensures.holdable) c.syndromes.new.out c.syndromes.ensures n short near
    c.propose-proposal.result c.propose-proposal.ensures.tells)
