-- A write that is not refused.
use Rattle.std.proofs.Common.{◌≡◌, ℕ, ◌<◌, ◌≤◌, [], ◌∷◌, ◌++◌, length, Ok}
use Rattle.std.proofs.lemmas.Bool.{le-ltb, lt-leb}
use Rattle.book.specs.Book.{Book, undoubted_place, write}

pub write_held : (b : Book) (v : ℕ) → v ≤ 31 → length b < 89 → write v b ≡ Ok (b ++ undoubted_place v ∷ [])
write_held b v h k = simp (le-ltb 31 v h, lt-leb 89 (length b) k)
