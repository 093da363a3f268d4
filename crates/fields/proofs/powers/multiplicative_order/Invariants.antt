use Rattle.std.specs.Slice.Iter.{iter_rest}
use Rattle.algebra.proofs.Divisors.{Finds}
use Rattle.fields.proofs.powers.multiplicative_order.Given as goal

abbrev pub invariant-loop-divisors : goal.invariant-loop-divisors
invariant-loop-divisors g l = Finds g.F.Field.field l.x (iter_rest l.divisors)
