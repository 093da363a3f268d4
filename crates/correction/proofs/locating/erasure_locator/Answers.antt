use Rattle.std.proofs.Common.{◌+◌, ◌∙◌, arith, rules}
use Rattle.std.proofs.lemmas.List.{length-take-le}
use Rattle.correction.proofs.Doubted.{doubted_none, doubted_past, doubted_more, doubted_room}
use Rattle.correction.proofs.locating.erasure_locator.Goals as goal
use Rattle.correction.proofs.locating.erasure_locator.Goals.{then-marked, else-marked}

pub loop-marked-init : goal.loop-marked-init
loop-marked-init g c = doubted_none _ _ _ c.args.list.now (cc) c.requires (c.ONE.ensures ∙ g.met.F.Field.one_is) (c.ONE-power.ensures ∙ g.met.F.Field.one_is)

pub overflow_add-len : goal.overflow_add-len
overflow_add-len g c =
    let room = doubted_room c.loop-marked.invariant _ _ c.in-Some.ensures.steps c.if-marked.true in
    search rules

pub slice_bounds-times_linear-end : goal.slice_bounds-times_linear-end
slice_bounds-times_linear-end g c =
    omega (arith, doubted_room c.loop-marked.invariant _ _ c.in-Some.ensures.steps c.if-marked.true)

pub slice_bounds-times_linear-end-then-marked : goal.slice_bounds-times_linear-end-then-marked
slice_bounds-times_linear-end-then-marked g c =
    let room = doubted_room c.loop-marked.invariant _ _ c.in-Some.ensures.steps c.if-marked.true in
    omega (arith, length-take-le (c.loop-marked.len + 1) c.loop-marked.list (omega arith))

pub loop-marked-preserved : goal.loop-marked-preserved
loop-marked-preserved g c =
    elim c.if-marked.branch [
      | then-marked w ↦
          rw (w.list-is, w.len-is) (doubted_more c.loop-marked.invariant c.in-Some.ensures.steps w.if-marked.true c.mul-power.ensures w.times_linear.ensures)
      | else-marked w ↦
          rw (w.list-is, w.len-is) (doubted_past c.loop-marked.invariant c.in-Some.ensures.steps w.if-marked.false c.mul-power.ensures)
    ]
