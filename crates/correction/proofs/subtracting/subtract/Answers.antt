use Rattle.std.proofs.Common.{arith}
use Rattle.std.proofs.lemmas.Grind.{common_steps}
use Rattle.correction.proofs.Lessening.{subtract_more, subtract_past}
use Rattle.correction.proofs.subtracting.subtract.Goals as goal
use Rattle.correction.proofs.subtracting.subtract.Goals.{then-record-symbols, else-record-symbols}

pub loop-record-preserved : goal.loop-record-preserved
loop-record-preserved g c =
    let C = g.C.Checksum.rows in
    let rs = c.args.records.now in
    let l = c.loop-record in
    elim c.if-record-symbols.branch [
      | then-record-symbols w ↦ record {
        same = rw w.symbols-is (subtract_more C rs l.record-index l.symbols _ c.loop-record-test.true l.invariant.same w.sub.result w.sub.ensures.sub);
        below = grind (arith, common_steps);
      }
      | else-record-symbols w ↦ record {
        same = rw w.symbols-is (subtract_past C rs l.record-index l.symbols _ c.loop-record-test.true l.invariant.same w.if-record-symbols.false);
        below = rw w.symbols-is l.invariant.below;
      }
    ]
