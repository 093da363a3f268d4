use Rattle.book.proofs.Kept.{promise}
use Rattle.script.proofs.Sets.{decided}
use Rattle.script.proofs.call.call.Goals as goal

pub returns-clause-decided : goal.returns-clause-decided
returns-clause-decided g c = decided g.K.CodeSet.codes c.laws.ensures c.args.call

pub returns-clause-promise : goal.returns-clause-promise
returns-clause-promise g c k = promise (g.K.CodeSet.codes k) (c.laws.ensures k)
