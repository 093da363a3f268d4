use Rattle.std.proofs.Common.{◌<◌, refl, lit≤}
use Rattle.std.proofs.lemmas.List.Elements.{All-replicate}
use Rattle.slip.proofs.slip.Slip.new.Goals as goal

pub invariant_of-result : goal.invariant_of-result
invariant_of-result c = record { all_symbols = refl; all_marks = refl; room = lit≤ tt; below = All-replicate (λ v. v < 32) 89 0 (lit≤ tt) }
