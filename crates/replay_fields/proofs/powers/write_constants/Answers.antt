use Rattle.std.proofs.Common.{rules, string_bytes}
use Rattle.algebra.specs.Field.{divisors_to}
use Rattle.replay.proofs.WithCommas.{printed_numbers}
use Rattle.replay_fields.proofs.powers.write_constants.Goals as goal

pub returns : goal.returns
returns g c =
    let printed = printed_numbers (string_bytes c.in_ok-factors.factors) (divisors_to g.F.Field.MULTIPLICATIVE_ORDER g.F.Field.MULTIPLICATIVE_ORDER) (search rules) in
    rw (← printed) search rules
