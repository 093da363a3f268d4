use Rattle.correction.proofs.Onward.{passed_over, taken_up, never_refused}
use Rattle.correction.proofs.listing.list_erasures.Goals as goal
use Rattle.correction.proofs.listing.list_erasures.Goals.{then-marked+in_ok-list_place, else-marked}

pub returns-in_err-list_place : goal.returns-in_err-list_place
returns-in_err-list_place g c =
    never_refused c.args.marks.now c.loop-place.place c.loop-place-test.true c.loop-place.invariant c.if-marked.true c.list_place.ensures c.in_err-list_place.was

pub loop-place-preserved : goal.loop-place-preserved
loop-place-preserved g c =
    elim c.if-marked.branch [
      | then-marked+in_ok-list_place w ↦
          rw w.pattern-is (taken_up c.args.marks.now c.loop-place.place c.loop-place-test.true c.loop-place.invariant w.if-marked.true w.list_place.ensures)
      | else-marked w ↦
          rw w.pattern-is (passed_over c.args.marks.now c.loop-place.place c.loop-place-test.true c.loop-place.invariant w.if-marked.false)
    ]
