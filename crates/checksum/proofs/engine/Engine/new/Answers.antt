use Rattle.std.proofs.Common.{◌∷◌, take, replicate, ◌∙◌, ap₂}
use Rattle.algebra.specs.Code.{checks}
use Rattle.checksum.proofs.Feeds.{front_one}
use Rattle.checksum.proofs.engine.Engine.new.Goals as goal

pub returns : goal.returns
returns g c =
    let lawful = c.laws.ensures.lawful in
    ap₂ (λ x y. take (checks g.C.Checksum.code) (x ∷ replicate 15 y)) (c.ONE.ensures ∙ g.met.C.SymbolField.Field.one_is) (c.ZERO-entries.ensures ∙ g.met.C.SymbolField.Field.zero_is)
    ∙ front_one g.C.SymbolField.Field.field (checks g.C.Checksum.code) lawful.some_checks lawful.few_checks
