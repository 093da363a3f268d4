use Rattle.std.proofs.Common.{◌≡◌, suc, ◌+◌, ◌-◌, ◌∷◌, replicate, sym, ap, ◌∙◌, arith}
use Rattle.algebra.specs.Code.{modulo, residue_from}
use Rattle.checksum.proofs.engine.Engine.input_zeros.Goals as goal

pub loop-preserved : goal.loop-preserved
loop-preserved g c =
    let F = g.C.SymbolField.Field.field in
    let lower = g.C.Checksum.code.lower in
    let before = c.loop.self in
    let end = c.CHECKSUM_LENGTH-end.result in
    let left = end - (c.loop.counter + 1) in
    let one_less : end - c.loop.counter ≡ suc left = omega arith in
    ap (λ r. residue_from F lower r (replicate left F.𝟘)) (c.input_fe.ensures ∙ ap (λ v. modulo F lower (v ∷ before)) (c.ZERO.ensures ∙ g.met.C.SymbolField.Field.zero_is))
    ∙ ap (λ n. residue_from F lower before (replicate n F.𝟘)) (sym one_less)
    ∙ c.loop.invariant
