use Rattle.std.proofs.Common.{◌≡◌, ◌<◌, length, get_or, take, ◌∙◌, subst, sym, arith, length-take}
use Rattle.std.proofs.lemmas.List.{get_or-take, get_or_default}
use Rattle.book.specs.Book.{fresh_book}
use Rattle.book.specs.Calls.{Follows}
use Rattle.book.proofs.Kept.{promise}
use Rattle.script.specs.Script.{book_call, book_answer}
use Rattle.script.proofs.Sets.{clear_after_call, decided}
use Rattle.script.proofs.Stories.{stories_put, stories_past, stories_all, stories_fresh, untouched_put, untouched_past, unasked_take}
use Rattle.script.proofs.run.run.Goals as goal
use Rattle.script.proofs.run.run.Goals.{then-step-slips, else-step-slips}

pub loop-i-preserved : goal.loop-i-preserved
loop-i-preserved g c =
    let codes = g.K.CodeSet.codes in
    let ts = c.args.steps.now in
    let k = c.loop-i.i in
    let t = c.step-item.result in
    let rs = c.loop-i.replies in
    let ss = c.loop-i.slips in
    let m = length c.args.slips.now in
    let test : k < length (take c.min-count.result ts) = c.loop-i-test.true in
    let long = length-take c.min-count.result ts in
    let h : k < length ts = omega (arith, c.min-count.ensures) in
    let is : t ≡ get_or ts k t = c.step-item.is ∙ get_or-take c.min-count.result ts k t (omega (arith, c.min-count.ensures)) in
    elim c.if-step-slips.branch [
      | then-step-slips w ↦
          let r = w.call.result in
          let e = w.call.new.slip in
          let room : k < length rs = omega (arith, c.min-count.ensures) in
          let there : t.slip < length ss = omega (arith, w.if-step-slips.true) in
          let f : Follows (get_or ss t.slip fresh_book) (book_call codes t.call) (book_answer r) e =
          rw (get_or_default ss t.slip fresh_book w.index-slips-step.result (omega arith)) w.call.ensures.follows in
          rw (w.slips-is, w.replies-is, w.workspace-is) (
            stories_put ts k t h is codes c.args.slips.now rs ss c.loop-i.invariant.0 r e room there f,
            untouched_put ts k t h is m c.args.replies.now rs c.loop-i.invariant.1 r (omega arith),
            λ h. subst g.K.CodeSet.clear (sym w.call.ensures.working) (clear_after_call g.K.CodeSet.clear g.K.CodeSet.cleared c.stays_clear.ensures t.call r c.loop-i.workspace (c.loop-i.invariant.2 h)),
          )
      | else-step-slips w ↦ rw (w.slips-is, w.replies-is, w.workspace-is) (
        stories_past ts k t h is codes c.args.slips.now rs ss c.loop-i.invariant.0 (omega (arith, w.if-step-slips.false)),
        untouched_past ts k t h is m c.args.replies.now rs c.loop-i.invariant.1,
        c.loop-i.invariant.2,
      )
    ]

pub returns : goal.returns
returns g c =
    let codes = g.K.CodeSet.codes in
    let before = c.args.slips.now in
    let after = c.loop-i.slips in
    let ts = c.args.steps.now in
    let rs = c.loop-i.replies in
    let whole = stories_all codes before after ts rs c.loop-i.i (omega (arith, c.min-count.ensures, length-take c.min-count.result ts, c.loop-i-test.false)) c.loop-i.invariant.0 in
    record {
      stories = whole;
      fresh = stories_fresh codes before after ts rs whole;
      decided = decided codes c.laws.ensures;
      promise = λ k. promise (codes k) (c.laws.ensures k);
      clear = c.loop-i.invariant.2;
      untouched = λ j d u. c.loop-i.invariant.1 j d (unasked_take (length c.args.slips.now) ts c.loop-i.i j u);
    }
