use Rattle.std.proofs.Common.{ap}
use Rattle.std.proofs.lemmas.Bool.Decides.{Decides-at}
use Rattle.fields.proofs.Answered.{dropped}
use Rattle.fields.specs.Gf32768.{fe32768_decides, lift32768}
use Rattle.fields.specs.declared.gf32768.Fe32768.{Fe32768}
use Rattle.fields.proofs.gf32768.arithmetic.Fe32768ExtensionField.drop_to_base.Goals as goal

pub returns : goal.returns
returns c =
    let x = c.args.self in
    let test = Decides-at _ _ c.eq.ensures (fe32768_decides x c.lift.result) in
    dropped lift32768 x c.lift.result x.c0 c.then_some.result c.eq.result test c.lift.ensures (λ z e. ap (λ (y : Fe32768). y.c0) e) c.then_some.ensures
