use Rattle.std.proofs.Common.{◌≡◌, ◌<◌, length, take, drop, ap, ◌∙◌, arith}
use Rattle.std.proofs.lemmas.List.{length-take-le, take_at}
use Rattle.algebra.specs.Code.{checks}
use Rattle.algebra.specs.Poly.{poly_sub}
use Rattle.algebra.proofs.Poly.{length_poly_sub}
use Rattle.checksum.proofs.Replaced.{replaced_all, coeff_left, difference_more}
use Rattle.checksum.proofs.engine.Engine.subtract_from_target.Goals as goal

pub loop-power-preserved : goal.loop-power-preserved
loop-power-preserved g c =
    let F = g.C.SymbolField.Field.field in
    let code = g.C.Checksum.code in
    let lawful = c.laws.ensures.lawful in
    let few = lawful.few_checks in
    let as-target = lawful.target_length in
    let is-k = c.CHECKSUM_LENGTH.ensures ∙ g.met.C.Checksum.checksum_length_is in
    let old = take c.CHECKSUM_LENGTH.result c.self.inside.entries in
    let new = poly_sub F code.target old in
    let i = c.loop-power.power in
    let x = c.index-residue-power.result in
    let many = length-take-le c.CHECKSUM_LENGTH.result c.self.inside.entries (omega (arith, c.self.invariant)) in
    let long : length new ≡ length old = length_poly_sub F code.target old (omega arith) ∙ omega arith in
    let here : i < length old = omega arith in
    let left = coeff_left F code.target old old long i here c.loop-power.residue c.loop-power.invariant x in
    difference_more F code.target old old long i here c.loop-power.residue c.loop-power.invariant c.difference.result _ _ c.difference.ensures c.target_residue.ensures left

pub returns : goal.returns
returns g c =
    let F = g.C.SymbolField.Field.field in
    let code = g.C.Checksum.code in
    let lawful = c.laws.ensures.lawful in
    let few = lawful.few_checks in
    let as-target = lawful.target_length in
    let is-k = c.CHECKSUM_LENGTH.ensures ∙ g.met.C.Checksum.checksum_length_is in
    let entries = c.self.inside.entries in
    let old = take c.CHECKSUM_LENGTH.result entries in
    let new = poly_sub F code.target old in
    let many = length-take-le c.CHECKSUM_LENGTH.result entries (omega (arith, c.self.invariant)) in
    let long : length new ≡ length old = length_poly_sub F code.target old (omega arith) ∙ omega arith in
    let held : old ≡ c.args.self.now = ap (λ n. take n entries) is-k ∙ c.self.view_is in
    take_at c.loop-power.residue (drop c.CHECKSUM_LENGTH.result entries) (checks code) (omega arith)
    ∙ c.loop-power.invariant
    ∙ replaced_all new old long c.loop-power.power c.loop-power-test.false
    ∙ ap (poly_sub F code.target) held
