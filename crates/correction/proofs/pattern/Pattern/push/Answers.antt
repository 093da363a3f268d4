use Rattle.std.proofs.Common.{◌+◌, drop, replicate, sym, ap, ◌∙◌, arith, length-set, drop-set-lt, drop-drop}
use Rattle.std.proofs.lemmas.List.{drop-replicate}
use Rattle.correction.specs.Patterns.{blank_record}
use Rattle.correction.proofs.pattern.Pattern.push.Goals as goal

pub invariant_of-self : goal.invariant_of-self
invariant_of-self c =
    let p = c.self.inside in
    let kept = c.self.invariant in
    record {
      sixteen = length-set p.records p.len c.args.record ∙ kept.sixteen;
      few = omega arith;
      clear = drop-set-lt (p.len + 1) p.records p.len c.args.record (omega arith)
          ∙ sym (drop-drop 1 p.len p.records)
          ∙ ap (drop 1) kept.clear
          ∙ drop-replicate 1 _ blank_record
          ∙ ap (λ n. replicate n blank_record) (omega arith);
    }
