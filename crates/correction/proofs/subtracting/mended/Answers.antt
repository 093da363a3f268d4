use Rattle.std.proofs.Common.{ℕ, ◌<◌, ◌∙◌, All, ap, arith, subst}
use Rattle.std.proofs.lemmas.Grind.{common_steps}
use Rattle.algebra.specs.NumericCode.{NumericCode}
use Rattle.correction.proofs.Lessening.{sure_holdable}
use Rattle.correction.proofs.subtracting.mended.Goals as goal

pub returns-clause-holdable : goal.returns-clause-holdable
returns-clause-holdable g c =
    let size = ap (λ (rows : NumericCode). rows.size) g.met.C.Checksum.rows_are ∙ c.laws.ensures.alphabet in
    let below = subst (λ (n : ℕ). All (λ v. v < n) c.subtract.new.symbols) size c.subtract.ensures.below in
    rw c.undoubted.ensures (sure_holdable c.subtract.new.symbols (grind (arith, common_steps)) below)
