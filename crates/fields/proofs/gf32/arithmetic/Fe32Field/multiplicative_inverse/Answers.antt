use Rattle.std.proofs.Common.{ℕ, Ok, sym, ap, ◌∙◌}
use Rattle.fields.specs.Binary.{binary_power}
use Rattle.fields.specs.Gf32.{gf32, fe_path}
use Rattle.fields.specs.declared.gf32.Fe32.{Fe32}
use Rattle.fields.proofs.Logarithms.{power_neg}
use Rattle.fields.proofs.Refusals.{inverse_of_other}
use Rattle.fields.proofs.gf32.arithmetic.Fe32Field.multiplicative_inverse.Goals as goal

pub returns : goal.returns
unfolding gf32
returns c =
    let x = c.args.self in
    let log = c.logarithm in
    let ne = c.if-self-eq0.false in
    let value = c.power_of_t.ensures ∙ power_neg log.result log.ensures.below ∙ ap (λ (a : ℕ). binary_power a 30) (log.ensures.power ne) in
    ap Ok (fe_path _ _ value) ∙ sym (inverse_of_other gf32 x (λ e. ne (ap (λ (y : Fe32). y.value) e)))
