use Rattle.std.proofs.Common.{sym, subst}
use Rattle.algebra.specs.Code.{IsSoundRow}
use Rattle.book.specs.Book.{Book, row}
use Rattle.slip.specs.Sealing.{elements_of}
use Rattle.slip.proofs.Memory.{can_hold}
use Rattle.slip.proofs.Sealing.{sealed_book_sound}
use Rattle.slip.proofs.slip.Slip.seal.Goals as goal

pub returns-then-self-CHECKSUM_LENGTH-clause-holdable : goal.returns-then-self-CHECKSUM_LENGTH-clause-holdable
returns-then-self-CHECKSUM_LENGTH-clause-holdable g c = can_hold c.self.inside c.args.self.now c.self.invariant c.self.view_is

pub returns-clause-holdable : goal.returns-clause-holdable
returns-clause-holdable g c = can_hold c.self.inside c.args.self.now c.self.invariant c.self.view_is

pub returns-clause-sound : goal.returns-clause-sound
returns-clause-sound g c e =
    let N = g.C.SymbolField.Field.numbers in
    let F = g.C.SymbolField.Field.field in
    let code = g.C.Checksum.code in
    subst (λ (d : Book). IsSoundRow F code (elements_of N (row d))) (sym c.append_checks.ensures) (sealed_book_sound N F code c.laws.ensures.lawful.target_length c.args.self.now)
