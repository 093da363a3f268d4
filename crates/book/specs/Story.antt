-- Calls one after another.
use Rattle.std.specs.Prelude.{◌≡◌, List, [], ◌∷◌}
use Rattle.book.specs.Book.{Book, fresh_book}
use Rattle.book.specs.Calls.{BookCall, BookAnswer, Follows}

-- calls with their answers lead from one book to another
abbrev pub Leads : Book → List (BookCall × BookAnswer) → Book → Type 0
Leads b [] end = end ≡ b
Leads b (step ∷ steps) end = (next : Book) × Follows b step.0 step.1 next × Leads next steps end

-- and from a fresh slip
abbrev pub IsStory : List (BookCall × BookAnswer) → Book → Type 0
IsStory steps b = Leads fresh_book steps b
