use Rattle.std.proofs.Common.{length, is_ok, ap, ◌∙◌, rules}
use Rattle.book.specs.Book.{answer_of}
use Rattle.sheet.proofs.EightSealed.{eight_held, eight_sealed, twelve_sealed}
use Rattle.sheet.proofs.sealed.sealed_row.Goals as goal

pub unwrap-requires : goal.unwrap-requires
unwrap-requires c = ap is_ok (c.seal.ensures.answer ∙ ap answer_of (eight_held c.args.slip.now c.requires))

pub unwrap-requires-2 : goal.unwrap-requires-2
unwrap-requires-2 c =
    let b = c.args.slip.now in
    let twelve = ap length (eight_sealed b c.requires _ _ c.seal.ensures.book c.symbols.ensures.row) ∙ twelve_sealed b c.requires in
    search rules

pub returns : goal.returns
returns c =
    let whole = rw c.unwrap-2.ensures at c.try_into.ensures.1 in
    whole.same ∙ eight_sealed c.args.slip.now c.requires _ _ c.seal.ensures.book c.symbols.ensures.row
