-- The row of a book that is made of others.
use Rattle.std.proofs.Common.{◌≡◌, ℕ, List, [], ◌∷◌, ◌++◌, map, refl, ap}
use Rattle.std.proofs.lemmas.List.{map-append}
use Rattle.book.specs.Book.{Book, row, undoubted_place}

pub row_append : (b c : Book) → row (b ++ c) ≡ row b ++ row c
row_append b c = map-append (λ p. p.symbol) b c

pub row_sure : (vs : List ℕ) → row (map undoubted_place vs) ≡ vs
row_sure [] = refl
row_sure (v ∷ vs) = ap (λ (ws : List ℕ). v ∷ ws) (row_sure vs)
