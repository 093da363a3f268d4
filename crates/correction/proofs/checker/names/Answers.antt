use Rattle.std.proofs.Common.{eqb, rules, tests}
use Rattle.std.proofs.lemmas.Iterator.{YieldsList-from_slice}
use Rattle.std.proofs.lemmas.Iterator.Search.{any_from_yields_List}
use Rattle.correction.proofs.Checking.{named}
use Rattle.correction.proofs.checker.names.Goals as goal

pub returns : goal.returns
returns c =
    let any = any_from_yields_List (λ r. eqb r.place c.args.place) _ _ c.any.result c.any.ensures.ran (YieldsList-from_slice c.args.records.now cc) (λ x b q k. search (rules, tests)) in
    rw any (named c.args.place c.args.records.now)
