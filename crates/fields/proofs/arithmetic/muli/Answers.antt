use Rattle.std.proofs.Common.{sym, ◌∙◌}
use Rattle.std.proofs.lemmas.Int.{to_z-of_z}
use Rattle.fields.proofs.Multiples.{even_bits, odd_bits, multipleℤ_even, multipleℤ_odd}
use Rattle.fields.proofs.arithmetic.muli.Goals as goal

pub returns-then-n-eq0 : goal.returns-then-n-eq0
returns-then-n-eq0 g c =
    let fits = c.ranges.n in
    let even = even_bits c.args.n (simp to_z-of_z at c.if-n-eq0.true) in
    c.ZERO.ensures ∙ g.met.F.Field.zero_is ∙ sym (multipleℤ_even g.F.Field.field g.met.F.Field.characteristic_two c.args.x c.args.n even)

pub returns-else-n-eq0 : goal.returns-else-n-eq0
returns-else-n-eq0 g c =
    let fits = c.ranges.n in
    let odd = odd_bits c.args.n (simp to_z-of_z at c.if-n-eq0.false) in
    sym (multipleℤ_odd g.F.Field.field g.met.F.Field.characteristic_two c.args.x c.args.n odd)
