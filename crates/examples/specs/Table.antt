-- Worked examples: what the definitions compute, row by row, and what is expected.
use Rattle.std.specs.Prelude.{ℕ, List, [], ◌∷◌, ◌++◌, map, length, replicate, None, Some, codes}
use Rattle.algebra.specs.Field.{pow}
use Rattle.algebra.specs.Poly.{coeff}
use Rattle.algebra.specs.Register.{register}
use Rattle.book.specs.Book.{Book, undoubted_place, doubted_place}
use Rattle.book.specs.Calls.{search_fault}
use Rattle.checksum.specs.Finish.{finish_rows}
use Rattle.fields.specs.Gf32.{gf32, gf32_numbers}
use Rattle.fields.specs.declared.gf32.Fe32.{Fe32}
use Rattle.fields.specs.Gf1024.{gf1024, fe1024}
use Rattle.fields.specs.declared.gf1024.Fe1024.{Fe1024}
use Rattle.lists.specs.Lists.{mul_mod_x_d}
use Rattle.sheet.specs.Groups.{character_for}
use Rattle.sheet.specs.Refusals.{code_refusal}
use Rattle.sheet.specs.Sealed.{sealed_row}
use Rattle.sheet.specs.declared.characters.Case.TheVariants.{Lower}

abbrev element : ℕ → Fe32
element = gf32_numbers.element

abbrev numbers : List Fe32 → List ℕ
numbers = map gf32_numbers.number

-- 1 + 6ζ
abbrev pub one_six : Fe1024
one_six = fe1024 (element 1) (element 6)

abbrev coefficients : Fe1024 → List ℕ
coefficients x = numbers (x.c0 ∷ x.c1 ∷ [])

-- Massey's connection list of all terms
abbrev connection : List ℕ → List ℕ
connection terms = numbers (register gf32 (coeff gf32 (map element terms)) (length terms)).conn

-- 1 + x
abbrev one_one : List Fe32
one_one = map element (1 ∷ 1 ∷ [])

-- a sail number and a time
abbrev pub eight_symbols : List ℕ
eight_symbols = 4 ∷ 20 ∷ 20 ∷ 12 ∷ 15 ∷ 31 ∷ 0 ∷ 6 ∷ []

-- undoubted places and then doubted ones, each with the symbol 0
abbrev book_of_size : ℕ → ℕ → Book
book_of_size undoubted doubted = replicate undoubted (undoubted_place 0) ++ replicate doubted (doubted_place 0)

-- the number of the refusal that a search by the finish code begins with, if any
abbrev refusal_numbers : Book → List ℕ
refusal_numbers b = elim (search_fault finish_rows 4 72 b) [ None ↦ [] | Some fault ↦ (code_refusal fault).number ∷ [] ]

abbrev pub computed_rows : List (List ℕ)
computed_rows =
    -- a product in GF(32)
    numbers (gf32.mul (element 6) (element 24) ∷ [])
    -- a row sealed by the finish code, as symbols and as text
    ∷ sealed_row eight_symbols
    ∷ map (character_for Lower) (sealed_row eight_symbols)
    -- two powers of 1 + 6ζ in GF(1024), by their coefficients
    ∷ coefficients (pow gf1024 one_six 24)
    ∷ coefficients (pow gf1024 one_six 341)
    -- the connection lists of two sequences
    ∷ connection (27 ∷ 0 ∷ 0 ∷ 0 ∷ [])
    ∷ connection (0 ∷ 0 ∷ 5 ∷ [])
    -- 1 + x times itself: the cut at 100 is far above its degree, the cut at 2 is not
    ∷ numbers (mul_mod_x_d gf32 one_one one_one 100)
    ∷ numbers (mul_mod_x_d gf32 one_one one_one 2)
    -- a search of a long row, of one that is too long or too short, and of one with too many doubts
    ∷ refusal_numbers (book_of_size 31 0)
    ∷ refusal_numbers (book_of_size 32 0)
    ∷ refusal_numbers (book_of_size 4 0)
    ∷ refusal_numbers (book_of_size 7 5)
    ∷ []

abbrev pub expected_rows : List (List ℕ)
expected_rows =
    (2 ∷ [])
    ∷ (4 ∷ 20 ∷ 20 ∷ 12 ∷ 15 ∷ 31 ∷ 0 ∷ 6 ∷ 10 ∷ 17 ∷ 15 ∷ 18 ∷ [])
    ∷ codes "y55v0lqx230j"
    ∷ (12 ∷ 24 ∷ [])
    ∷ (1 ∷ 1 ∷ [])
    ∷ (1 ∷ 0 ∷ [])
    ∷ (1 ∷ 0 ∷ 0 ∷ 5 ∷ [])
    ∷ (1 ∷ 0 ∷ 1 ∷ 0 ∷ [])
    ∷ (1 ∷ 0 ∷ [])
    ∷ []
    ∷ (5 ∷ [])
    ∷ (4 ∷ [])
    ∷ (8 ∷ [])
    ∷ []
