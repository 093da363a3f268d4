use Rattle.std.proofs.Common.{rules, ◌≡◌, map, string_bytes}
use Rattle.replay.proofs.WithCommas.{printed_numbers}
use Rattle.replay.proofs.elements.write_elements.Goals as goal

pub returns : goal.returns
returns g c =
    let made : c.in_ok-numbers.numbers.items ≡ map g.F.Field.numbers.number c.args.elements.now = search rules in
    let lent : c.as_slice.result.now ≡ c.in_ok-numbers.numbers.items = search rules in
    let printed = printed_numbers (string_bytes c.in_ok-to_string.field-0) c.as_slice.result.now c.in_ok-to_string.ensures.ok in
    cc
