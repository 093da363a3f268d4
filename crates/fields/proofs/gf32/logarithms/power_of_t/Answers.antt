use Rattle.fields.proofs.Logarithms.{listed_lt, listed_power}
use Rattle.fields.proofs.gf32.logarithms.power_of_t.Goals as goal

pub invariant_of-result : goal.invariant_of-result
invariant_of-result c = record { ok = listed_lt c.args.exponent c.requires }

pub returns : goal.returns
returns c = listed_power c.args.exponent c.requires
