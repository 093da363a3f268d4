use Rattle.std.proofs.Common.{◌≤◌, rules, subst, sym}
use Rattle.algebra.specs.NumericCode.{NumericCode}
use Rattle.script.proofs.LentLists.{found_on_workspace}
use Rattle.script.proofs.codes.SingleCodeSet.find.Goals as goal

pub returns-clause-found : goal.returns-clause-found
returns-clause-found g c =
    found_on_workspace g.C.Checksum.rows (subst (λ (r : NumericCode). r.bound ≤ 16) (sym g.met.C.Checksum.rows_are) c.laws.ensures.lawful.bound_small)
    _ c.args.lent.records c.args.lent.working c.min.result _ c.find.result c.min.ensures (search rules) c.find.ensures.found
