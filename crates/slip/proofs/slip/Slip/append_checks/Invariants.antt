use Rattle.std.proofs.Common.{◌≡◌, ◌++◌, map, take}
use Rattle.book.specs.Book.{undoubted_place}
use Rattle.slip.proofs.slip.Slip.append_checks.Given as goal

abbrev pub invariant-loop-symbol : goal.invariant-loop-symbol
invariant-loop-symbol g l =
    let number = g.C.SymbolField.Field.numbers.number in
    let symbols = l.symbol-items in
    l.self ≡ l.initial.self ++ map undoubted_place (map number (take l.symbol-index symbols))
