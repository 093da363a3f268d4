use Rattle.std.proofs.Common.{◌+◌, ◌-◌, ◌≤◌, length, drop, sym, ap, ◌∙◌, ap₂, arith, take_all}
use Rattle.std.proofs.lemmas.List.{length-take-le, length-drop}
use Rattle.algebra.specs.Register.{updated_list}
use Rattle.lists.proofs.Shifted.{shifted_none, shifted_more}
use Rattle.lists.proofs.lfsr.subtract_shifted.Goals as goal

pub loop-i-init : goal.loop-i-init
loop-i-init g c =
    let x = c.args.x in
    shifted_none g.F.Field.field c.args.conn.now c.args.c x (x + length c.args.old.now - x) (omega arith)

pub loop-i-preserved : goal.loop-i-preserved
loop-i-preserved g c =
    let F = g.F.Field.field in
    let o = c.args.old.now in
    let x = c.args.x in
    let n = x + length o - x in
    let part = drop x c.args.conn.now in
    let rest = length-drop x c.args.conn.now in
    let size = length-take-le n part (omega arith) in
    let i = c.loop-i.i in
    shifted_more F c.args.conn.now c.args.c x n o c.loop-i.entry-items i c.index-old-i.result c.entry-item.result c.difference.result (omega arith) (omega arith) c.requires
    c.loop-i.invariant c.index-old-i.is c.entry-item.is (c.difference.ensures ∙ ap₂ (λ a b. F.add a (F.neg b)) (sym c.entry-item.is) c.mul.ensures)

pub returns : goal.returns
returns g c =
    let F = g.F.Field.field in
    let o = c.args.old.now in
    let x = c.args.x in
    let n = x + length o - x in
    let part = drop x c.args.conn.now in
    let rest = length-drop x c.args.conn.now in
    let size = length-take-le n part (omega arith) in
    let all : length o ≤ c.loop-i.i = omega arith in
    c.loop-i.invariant ∙ ap (updated_list F c.args.conn.now c.args.c x) (take_all c.loop-i.i o all)
