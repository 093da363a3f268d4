use Rattle.fields.proofs.Logarithms.{log_lt, power_log}
use Rattle.fields.proofs.gf32.logarithms.logarithm.Goals as goal

pub returns : goal.returns
returns c =
    let x = c.args.x in
    record { below = log_lt x.value x.ok; power = power_log x.value x.ok }
