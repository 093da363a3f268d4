use Rattle.std.proofs.Common.{◌+◌, ◌<◌, ◌≤◌, length, sym, ap, ◌∙◌, add-one, arith}
use Rattle.algebra.specs.Field.{pow}
use Rattle.algebra.specs.Poly.{tab}
use Rattle.algebra.proofs.Tab.{length_tab}
use Rattle.lists.proofs.Filled.{filled_more, count_short, written_short, count_room}
use Rattle.lists.proofs.fieldvec.from_powers.Goals as goal

pub returns-then-out-n : goal.returns-then-out-n
returns-then-out-n g c =
    let new = tab (c.args.n + 1) (pow g.F.Field.field c.args.x) in
    let short : length c.args.out.now < length new = omega (arith, length_tab (c.args.n + 1) (pow g.F.Field.field c.args.x)) in
    record { answer = count_short 1 new c.args.out.now (omega arith) short; answered = written_short 1 new c.args.out.now (omega arith) short }

pub loop-place-preserved : goal.loop-place-preserved
loop-place-preserved g c =
    let F = g.F.Field.field in
    let x = c.args.x in
    let i = c.loop-place.place-index in (
      filled_more (pow F x) _ i c.loop-place.place-items c.loop-place.invariant.0 c.loop-place.power (omega arith) c.loop-place.invariant.1,
      c.mul-power.ensures ∙ ap (F.mul x) c.loop-place.invariant.1 ∙ ap (pow F x) (sym (add-one i)),
    )

pub returns-clause-answer : goal.returns-clause-answer
returns-clause-answer g c =
    let old = c.args.out.now in
    let n = c.args.n + 1 in
    let new = tab n (pow g.F.Field.field c.args.x) in
    let size = length_tab n (pow g.F.Field.field c.args.x) in
    let room : length new ≤ length old = omega arith in
    count_room 1 new old (omega arith) room n (sym size)
