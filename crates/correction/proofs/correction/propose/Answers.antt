use Rattle.std.proofs.Common.{ap, ◌∙◌, arith}
use Rattle.algebra.specs.Rows.{count_true}
use Rattle.correction.proofs.Proposals.{tells_at, refused_doubts, refused_errors, refused_erasures, refused_rest, all_proposed}
use Rattle.correction.proofs.correction.propose.Goals as goal

pub returns-then-doubts-s-clause-tells : goal.returns-then-doubts-s-clause-tells
returns-then-doubts-s-clause-tells g c = refused_doubts (omega (arith, c.doubts-doubts.ensures))

pub locate-requires-clause-few : goal.locate-requires-clause-few
locate-requires-clause-few g c = omega (arith, c.doubts-doubts.ensures, ap count_true c.marks-marks.ensures.marks)

pub returns-then-errors-s-clause-tells : goal.returns-then-errors-s-clause-tells
returns-then-errors-s-clause-tells g c =
    let code = g.met.C.Checksum in
    let root = c.ROOT_GENERATOR-root.ensures ∙ code.root_generator_is in
    let first = ap (λ p. p.0) (c.ROOT_EXPONENTS-first.ensures ∙ code.root_exponents_are) in
    tells_at c.marks-marks.ensures.marks root first
    (refused_errors c.locate.ensures.errors (omega (arith, c.doubts-doubts.ensures, ap count_true c.marks-marks.ensures.marks)))

pub returns-in_err-list_erasures-clause-tells : goal.returns-in_err-list_erasures-clause-tells
returns-in_err-list_erasures-clause-tells g c =
    let code = g.met.C.Checksum in
    let root = c.ROOT_GENERATOR-root.ensures ∙ code.root_generator_is in
    let first = ap (λ p. p.0) (c.ROOT_EXPONENTS-first.ensures ∙ code.root_exponents_are) in
    tells_at c.marks-marks.ensures.marks root first
    (refused_erasures c.locate.result.evaluator.now c.locate.result.derivative.now c.locate.ensures.evaluator c.locate.ensures.slopes c.new-pattern.ensures c.list_erasures.ensures
    c.in_err-list_erasures.was)

pub returns-in_err-list_errors-clause-tells : goal.returns-in_err-list_errors-clause-tells
returns-in_err-list_errors-clause-tells g c =
    let code = g.met.C.Checksum in
    let root = c.ROOT_GENERATOR-root.ensures ∙ code.root_generator_is in
    let first = ap (λ p. p.0) (c.ROOT_EXPONENTS-first.ensures ∙ code.root_exponents_are) in
    tells_at c.marks-marks.ensures.marks root first
    (refused_rest c.locate.result.evaluator.now c.locate.result.derivative.now c.locate.ensures.evaluator c.locate.ensures.slopes c.new-pattern.ensures c.list_erasures.ensures
    c.locate.ensures.errors c.list_errors.ensures c.in_err-list_errors.was)

pub returns-clause-tells : goal.returns-clause-tells
returns-clause-tells g c =
    let code = g.met.C.Checksum in
    let root = c.ROOT_GENERATOR-root.ensures ∙ code.root_generator_is in
    let first = ap (λ p. p.0) (c.ROOT_EXPONENTS-first.ensures ∙ code.root_exponents_are) in
    tells_at c.marks-marks.ensures.marks root first
    (all_proposed c.locate.result.evaluator.now c.locate.result.derivative.now c.locate.ensures.evaluator c.locate.ensures.slopes c.new-pattern.ensures c.list_erasures.ensures
    c.locate.ensures.errors c.list_errors.ensures)
