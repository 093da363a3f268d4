use Rattle.std.proofs.Common.{◌≡◌, sym, subst}
use Rattle.algebra.specs.Code.{seal, IsOnlySeal}
use Rattle.algebra.proofs.Sealing.{seals}
use Rattle.checksum.proofs.engine.seal.Goals as goal

pub returns-clause-seals : goal.returns-clause-seals
returns-clause-seals g c =
    let F = g.C.SymbolField.Field.field in
    let code = g.C.Checksum.code in
    let row = c.args.row.now in
    let is : c.completion.result ≡ seal F code row = cc in
    subst (IsOnlySeal F code row) (sym is) (seals F code c.laws.ensures.lawful.target_length row)
