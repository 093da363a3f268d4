use Rattle.std.proofs.Common.{rules, ◌≡◌, sym, ◌∙◌, subst, Decides}
use Rattle.std.proofs.lemmas.Iterator.{YieldsList-from_slice}
use Rattle.std.proofs.lemmas.Iterator.Search.{all_from_yields_List}
use Rattle.std.proofs.lemmas.Iterator.Consumers.{YieldsList-from_enumerate}
use Rattle.algebra.specs.Poly.{coeff}
use borrow.Author.Tests.{tests}
use Rattle.checksum.proofs.Alike.{alike_decided}
use Rattle.checksum.proofs.engine.Engine.meets_target.Goals as goal

pub returns : goal.returns
returns g c =
    let F = g.C.SymbolField.Field.field in
    let target = g.C.Checksum.code.target in
    let rs = c.residue.result.now in
    let all =
    all_from_yields_List (λ p. g.C.SymbolField.PartialEq.eq p.1 (coeff F target p.0)) _ _ _ c.all.ensures.ran (YieldsList-from_enumerate (YieldsList-from_slice rs cc) (cc))
    (λ x b q k. search (rules, tests)) in
    let long = c.residue.ensures.as_many ∙ sym c.laws.ensures.lawful.target_length in
    subst (λ r. Decides c.all.result (r ≡ target)) c.residue.ensures.coefficients (alike_decided F g.met.C.SymbolField.Field.equality rs target long c.all.result all)
