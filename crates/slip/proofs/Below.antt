-- The symbols of a book that a slip can hold are below the size of an alphabet of 32.
use Rattle.std.specs.List.{AllByRecursion}
use Rattle.std.proofs.Common.{◌≡◌, ℕ, ◌<◌, List, [], ◌∷◌, sym, subst}
use Rattle.std.proofs.lemmas.List.Elements.{All-head, All-tail}
use Rattle.std.specs.Prelude as std
use Rattle.book.specs.Book.{Book, row}
use Rattle.slip.specs.View.{IsHoldable}

each : (P : ℕ → Type 0) (vs : List ℕ) → std.All P vs → AllByRecursion P vs
each P [] h = tt
each P (v ∷ vs) h = (All-head P v vs h, each P vs (All-tail P v vs h))

pub row_below : (size : ℕ) → size ≡ 32 → (b : Book) → IsHoldable b → AllByRecursion (λ v. v < size) (row b)
row_below size e b h = subst (λ (n : ℕ). AllByRecursion (λ v. v < n) (row b)) (sym e) (each (λ v. v < 32) (row b) h.symbols)
