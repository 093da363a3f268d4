use Rattle.std.proofs.Common.{◌≡◌, map, take}
use Rattle.book.specs.Book.{undoubted_place}
use Rattle.correction.proofs.subtracting.undoubted.Given as goal

abbrev pub invariant-loop-symbol : goal.invariant-loop-symbol
invariant-loop-symbol l = l.slip ≡ map undoubted_place (take l.symbol-index l.symbols)
