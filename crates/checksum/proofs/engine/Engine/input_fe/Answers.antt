use Rattle.std.proofs.Common.{◌≡◌, ◌+◌, ◌<◌, ◌≤◌, ◌∷◌, length, take, drop, set, sym, ap, ◌∙◌, ap₂, arith}
use Rattle.std.proofs.lemmas.List.{length-take-le, take_at}
use Rattle.algebra.specs.Code.{checks, modulo}
use Rattle.checksum.proofs.Feeds.{feed, fed, fed_more, fed_all, feed_modulo}
use Rattle.checksum.proofs.engine.Engine.input_fe.Goals as goal

pub loop-power-preserved : goal.loop-power-preserved
loop-power-preserved g c =
    let F = g.C.SymbolField.Field.field in
    let lower = g.C.Checksum.code.lower in
    let rs = c.loop-power.residue in
    let i = c.loop-power.power in
    let r = c.index-residue-power.result in
    let few = c.laws.ensures.lawful.few_checks in
    let is-k = c.CHECKSUM_LENGTH.ensures ∙ g.met.C.Checksum.checksum_length_is in
    let many = length-take-le c.CHECKSUM_LENGTH.result c.self.inside.entries (omega (arith, c.self.invariant)) in
    let hr : i < length rs = omega arith in
    let hg : i < length lower = omega arith in
    let new : c.replace-below.new.dest ≡ F.add c.loop-power.below (F.mul c.neg-times.result c.generator.result) = cc in
    let old : c.replace-below.result ≡ r = c.replace-below.ensures.value ∙ sym c.index-residue-power.is in
    ap₂ (λ x w. fed F c.neg-times.result x (i + 1) (set rs i w) lower) old new
    ∙ fed_more F c.neg-times.result c.loop-power.below i rs lower r c.generator.result hr hg c.index-residue-power.is c.generator.ensures
    ∙ c.loop-power.invariant

pub returns : goal.returns
returns g c =
    let F = g.C.SymbolField.Field.field in
    let code = g.C.Checksum.code in
    let entries = c.self.inside.entries in
    let before = take c.CHECKSUM_LENGTH.result entries in
    let after = c.loop-power.residue in
    let times = c.neg-times.result in
    let x = c.index-residue-residue.result in
    let lawful = c.laws.ensures.lawful in
    let some = lawful.some_checks in
    let few = lawful.few_checks in
    let is-k = c.CHECKSUM_LENGTH.ensures ∙ g.met.C.Checksum.checksum_length_is in
    let many = length-take-le c.CHECKSUM_LENGTH.result entries (omega (arith, c.self.invariant)) in
    let done : checks code ≤ c.loop-power.power = omega arith in
    let held : before ≡ c.args.self.now = ap (λ n. take n entries) is-k ∙ c.self.view_is in
    take_at after (drop c.CHECKSUM_LENGTH.result entries) (checks code) (omega arith)
    ∙ sym (fed_all F times c.loop-power.below c.loop-power.power after code.lower done)
    ∙ c.loop-power.invariant
    ∙ ap (λ t. feed F t c.args.symbol before code.lower) c.neg-times.ensures
    ∙ feed_modulo F c.args.symbol x before code.lower (omega arith) (omega arith) c.index-residue-residue.is
    ∙ ap (λ r. modulo F code.lower (c.args.symbol ∷ r)) held
