use Rattle.std.proofs.Common.{sym, ◌∙◌}
use Rattle.algebra.proofs.Orders.{pow_ne_zero}
use Rattle.correction.proofs.forney.Forney.change_at.Goals as goal

pub value-requires : goal.value-requires
value-requires g c is-zero =
    pow_ne_zero g.E.Field.field c.args.self.now.root c.args.self.now.nonzero c.args.position (sym (c.nth.ensures.answer ∙ c.powers.ensures c.args.position) ∙ is-zero)
