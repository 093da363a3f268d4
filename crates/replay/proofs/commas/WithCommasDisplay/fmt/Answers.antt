use Rattle.std.proofs.Common.{Ok}
use Rattle.std.proofs.Output.{displays_on_IsOk_append}
use Rattle.replay.proofs.WithCommas.{commas_more, commas_all}
use Rattle.replay.proofs.commas.WithCommasDisplay.fmt.Goals as goal

pub loop-item-preserved : goal.loop-item-preserved
loop-item-preserved g c =
    let x = c.item-item.result in
    rw (commas_more g.T.Display.output c.in-Some.rest.now c.loop-item.item-index x c.loop-item-test.true c.item-item.is)
    (displays_on_IsOk_append _ _ _ _ (Ok tt) (Ok tt) _ _ (λ ok. ok) c.loop-item.invariant c.in_ok-write-2.ensures.writes)

pub returns-clause-writes : goal.returns-clause-writes
returns-clause-writes g c =
    let all = commas_all g.T.Display.output c.in-Some.rest.now c.loop-item.item-index c.loop-item-test.false in
    rw (c.in-Some.ensures.cases.0)
    (displays_on_IsOk_append _ _ _ _ (Ok tt) (Ok tt) _ _ (λ ok. ok) c.in_ok-write.ensures.writes (rw all at c.loop-item.invariant))
