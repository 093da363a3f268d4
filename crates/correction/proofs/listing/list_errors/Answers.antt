use Rattle.std.proofs.Common.{length, ap, arith}
use Rattle.correction.proofs.Indices.{for_order, next_index, no_index, first_position, none_left}
use Rattle.correction.proofs.Onward.{onward_all, onward_more, never_none}
use Rattle.correction.proofs.listing.list_errors.Goals as goal

pub returns-then-position-len : goal.returns-then-position-len
returns-then-position-len g c =
    let F = g.E.Field.field in
    let locator = c.args.locator.now in
    let len = c.args.len in
    let found = next_index F locator c.requires c.loop-index.roots c.next.new.self c.next.ensures.answer c.next.ensures.rest c.unwrap.ensures c.in-Some.is in
    let onward = first_position len c.unwrap-order.result c.loop-index.invariant.1 found c.position_of-position.ensures in
    let past = c.if-position-len.true in
    for_order F c.args.forney.now.root locator len c.loop-index.invariant.0 (λ Y l. let on_row = (onward Y l).0.changes.0.0 in absurd (omega arith))

pub returns-in_err-list_place : goal.returns-in_err-list_place
returns-in_err-list_place g c =
    let F = g.E.Field.field in
    let locator = c.args.locator.now in
    let len = c.args.len in
    let found = next_index F locator c.requires c.loop-index.roots c.next.new.self c.next.ensures.answer c.next.ensures.rest c.unwrap.ensures c.in-Some.is in
    let onward = first_position len c.unwrap-order.result c.loop-index.invariant.1 found c.position_of-position.ensures in
    for_order F c.args.forney.now.root locator len c.loop-index.invariant.0 (never_none len onward (λ y v. c.list_place.ensures y v.1) c.in_err-list_place.was)

pub loop-index-preserved : goal.loop-index-preserved
loop-index-preserved g c =
    let F = g.E.Field.field in
    let locator = c.args.locator.now in
    let len = c.args.len in
    let found = next_index F locator c.requires c.loop-index.roots c.next.new.self c.next.ensures.answer c.next.ensures.rest c.unwrap.ensures c.in-Some.is in
    let onward = first_position len c.unwrap-order.result c.loop-index.invariant.1 found c.position_of-position.ensures in
    (c.loop-index.invariant.0, onward_more len onward (λ y v. c.list_place.ensures y v.1))

pub loop-index-smaller : goal.loop-index-smaller
loop-index-smaller g c =
    let F = g.E.Field.field in
    let locator = c.args.locator.now in
    let found = next_index F locator c.requires c.loop-index.roots c.next.new.self c.next.ensures.answer c.next.ensures.rest c.unwrap.ensures c.in-Some.is in
    omega (arith, ap length found)

pub returns : goal.returns
returns g c =
    let F = g.E.Field.field in
    let locator = c.args.locator.now in
    let len = c.args.len in
    let none = no_index F locator c.requires c.loop-index.roots c.next.ensures.answer c.unwrap.ensures c.in_default.not-Some in
    for_order F c.args.forney.now.root locator len c.loop-index.invariant.0 (onward_all len (none_left len c.unwrap-order.result c.loop-index.invariant.1 none))
