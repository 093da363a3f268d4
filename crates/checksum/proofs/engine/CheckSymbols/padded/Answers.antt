use Rattle.std.proofs.Common.{◌≡◌, ◌-◌, ◌++◌, length, replicate, ap, sym, ◌∙◌, ap₂}
use Rattle.std.proofs.lemmas.List.{drop-replicate}
use Rattle.checksum.proofs.engine.CheckSymbols.padded.Goals as goal

-- ZEROs past the symbols, as many as there is room for
pub returns : goal.returns
returns g c =
    let k = c.CHECKSUM_LENGTH.result in
    let z = c.ZERO-symbols.result in
    let is-zero = c.ZERO-symbols.ensures ∙ g.met.C.SymbolField.Field.zero_is in
    let front = c.copy_from_slice.ensures.after ∙ c.symbols.ensures.symbols in
    let many : k ≡ length c.args.self.now =
    c.CHECKSUM_LENGTH.ensures ∙ g.met.C.Checksum.checksum_length_is ∙ sym c.symbols.ensures.as_many ∙ ap length c.symbols.ensures.symbols in
    ap₂ (λ a b. a ++ b) front (drop-replicate k 16 z ∙ ap₂ (λ n x. replicate (16 - n) x) many is-zero)
