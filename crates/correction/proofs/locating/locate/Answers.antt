use Rattle.std.proofs.Common.{ℕ, arith}
use Rattle.correction.proofs.Locates.{errors_are, few_errors, few_errata, values_are, slopes_are}
use Rattle.correction.proofs.locating.locate.Goals as goal

pub product-errata-requires-clause-room : goal.product-errata-requires-clause-room
product-errata-requires-clause-room g c =
    let r = c.requires in
    omega (
      arith,
      few_errors g.F.Field.field c.args.s.now c.args.marks.now c.args.a r.few r.some r.short r.nonzero
          c.erasure_locator-erasures.ensures.list c.folded_syndromes-terms.ensures.list c.connection_list-errors.ensures.list,
    )

pub derivative_of-requires-clause-room : goal.derivative_of-requires-clause-room
derivative_of-requires-clause-room g c =
    let r = c.requires in
    let MAX : ℕ = 18446744073709551615 in
    omega (
      arith,
      few_errata g.F.Field.field c.args.s.now c.args.marks.now c.args.a r.few r.some r.short r.nonzero
          c.erasure_locator-erasures.ensures.list c.folded_syndromes-terms.ensures.list c.connection_list-errors.ensures.list MAX (omega arith) c.product-errata.ensures.list,
    )

pub returns-clause-errors : goal.returns-clause-errors
returns-clause-errors g c =
    let r = c.requires in
    errors_are g.F.Field.field c.args.s.now c.args.marks.now c.args.a r.few r.some r.short r.nonzero
    c.erasure_locator-erasures.ensures.list c.folded_syndromes-terms.ensures.list c.connection_list-errors.ensures.list

pub returns-clause-evaluator : goal.returns-clause-evaluator
returns-clause-evaluator g c =
    let r = c.requires in
    let MAX : ℕ = 18446744073709551615 in
    values_are g.F.Field.field c.args.s.now c.args.marks.now c.args.a r.few r.some r.short r.nonzero
    c.erasure_locator-erasures.ensures.list c.folded_syndromes-terms.ensures.list c.connection_list-errors.ensures.list MAX (omega arith) c.product-errata.ensures.list c.product.ensures.list

pub returns-clause-slopes : goal.returns-clause-slopes
returns-clause-slopes g c =
    let r = c.requires in
    let MAX : ℕ = 18446744073709551615 in
    slopes_are g.F.Field.field c.args.s.now c.args.marks.now c.args.a r.few r.some r.short r.nonzero
    c.erasure_locator-erasures.ensures.list c.folded_syndromes-terms.ensures.list c.connection_list-errors.ensures.list MAX (omega arith) c.product-errata.ensures.list c.derivative_of.ensures
