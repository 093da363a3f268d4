use Rattle.std.proofs.Common.{◌<◌, ◌∙◌, arith, length-set}
use Rattle.std.proofs.lemmas.List.Elements.{All-set}
use Rattle.slip.proofs.Memory.{long}
use Rattle.slip.proofs.slip.Slip.push.Goals as goal

pub invariant_of-self : goal.invariant_of-self
invariant_of-self c =
    let s = c.self.inside in
    let filled = c.self.invariant in
    record {
      all_symbols = length-set s.symbols s.len c.args.symbol ∙ filled.all_symbols;
      all_marks = length-set s.doubted s.len c.args.doubted ∙ filled.all_marks;
      room = omega (arith, long s c.args.self.now filled c.self.view_is);
      below = All-set (λ v. v < 32) s.symbols s.len c.args.symbol c.requires.small filled.below;
    }
