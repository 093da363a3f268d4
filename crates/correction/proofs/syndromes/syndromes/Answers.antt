use Rattle.std.proofs.Common.{◌≡◌, length, map, sym, ap, ◌∙◌}
use Rattle.algebra.specs.Code.{residue}
use Rattle.algebra.specs.Poly.{poly_sub}
use Rattle.algebra.proofs.Sealing.{length_residue}
use Rattle.book.specs.Book.{row}
use Rattle.checksum.proofs.Replaced.{neg_poly_sub}
use Rattle.slip.specs.Sealing.{elements_of}
use Rattle.correction.proofs.syndromes.syndromes.Goals as goal

pub returns : goal.returns
returns g c =
    let s = g.C.SymbolField.Field.field in
    let code = g.C.Checksum.code in
    let symbols = elements_of g.C.SymbolField.Field.numbers (row c.args.slip.now) in
    let long : length code.target ≡ length (residue s code symbols) = c.laws.ensures.lawful.target_length ∙ sym (length_residue s code symbols) in
    let error : c.residue.result.now ≡ poly_sub s (residue s code symbols) code.target =
    c.residue.ensures.coefficients ∙ c.negate.ensures ∙ ap (map s.neg) (c.subtract_from_target.ensures ∙ ap (poly_sub s code.target) c.engine-engine.ensures)
    ∙ neg_poly_sub s code.target (residue s code symbols) long in
    simp (c.values_at_powers.ensures, c.requires, c.ROOT_GENERATOR.ensures, g.met.C.Checksum.root_generator_is, c.ROOT_EXPONENTS-first.ensures, g.met.C.Checksum.root_exponents_are, error)
