use Rattle.std.proofs.Common.{Some, sym, ap, ◌∙◌, mod-eq_of_lt}
use Rattle.fields.specs.Gf32.{gf32_numbers, fe_path}
use Rattle.fields.proofs.Refusals.{numbered_below}
use Rattle.fields.proofs.gf32.arithmetic.Fe32Field.from_number.Goals as goal

pub returns-then-number-lt32 : goal.returns-then-number-lt32
unfolding gf32_numbers
returns-then-number-lt32 c =
    let h = c.if-number-lt32.true in
    ap Some (fe_path _ _ (sym (mod-eq_of_lt h))) ∙ sym (numbered_below gf32_numbers c.args.number h)
