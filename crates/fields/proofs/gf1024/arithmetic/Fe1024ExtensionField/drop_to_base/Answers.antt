use Rattle.std.proofs.Common.{ap}
use Rattle.std.proofs.lemmas.Bool.Decides.{Decides-at}
use Rattle.fields.specs.Gf1024.{fe1024_decides, lift1024}
use Rattle.fields.specs.declared.gf1024.Fe1024.{Fe1024}
use Rattle.fields.proofs.Answered.{dropped}
use Rattle.fields.proofs.gf1024.arithmetic.Fe1024ExtensionField.drop_to_base.Goals as goal

pub returns : goal.returns
returns c =
    let x = c.args.self in
    let test = Decides-at _ _ c.eq.ensures (fe1024_decides x c.lift.result) in
    dropped lift1024 x c.lift.result x.c0 c.then_some.result c.eq.result test c.lift.ensures (λ z e. ap (λ (y : Fe1024). y.c0) e) c.then_some.ensures
