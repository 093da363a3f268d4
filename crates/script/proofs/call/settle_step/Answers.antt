use Rattle.std.proofs.lemmas.Result.{err_from_is_err_and}
use Rattle.book.specs.Calls.{settles}
use Rattle.script.proofs.Answered.{settle_gives}
use Rattle.script.proofs.call.settle_step.Goals as goal

pub returns-in_err-found-clause-follows : goal.returns-in_err-found-clause-follows
returns-in_err-found-clause-follows g c =
    let p = err_from_is_err_and c.from_residual.result c.from_residual.ensures.1 in
    rw (p.1, p.2) (settles c.in_err-found.ensures.found)

pub returns-clause-follows : goal.returns-clause-follows
returns-clause-follows g c = rw (c.new-listing.ensures.records, c.new-listing.ensures.nonzero) (settle_gives c.in_ok-found.ensures.found)
