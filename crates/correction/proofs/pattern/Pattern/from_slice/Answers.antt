use Rattle.std.proofs.Common.{◌≡◌, ℕ, length, drop, replicate, ap, ◌∙◌, arith, length-append, length-drop}
use Rattle.std.proofs.lemmas.List.{drop-replicate}
use Rattle.std.proofs.lemmas.Slice.{drop-append-drop}
use Rattle.correction.specs.Patterns.{blank_record}
use Rattle.correction.proofs.pattern.Pattern.from_slice.Goals as goal

pub invariant_of-result : goal.invariant_of-result
invariant_of-result c =
    let n = length c.args.records.now in
    let front = c.copy_from_slice.new.self in
    let same : ◌≡◌ {A = ℕ} (length front) n = ap length c.copy_from_slice.ensures.after in
    let room = replicate 16 blank_record in
    record {
      sixteen = length-append front (drop n room) ∙ omega (arith, length-drop n room);
      few = omega arith;
      clear = drop-append-drop n room front n (omega arith) same ∙ drop-replicate n 16 blank_record;
    }
