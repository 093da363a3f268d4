-- A book of eight symbols is sealed by the finish code: it is within the limit, and four symbols are added.
use Rattle.std.proofs.Common.{◌≡◌, ℕ, List, ◌++◌, map, length, Ok, refl, ap, ◌∙◌, arith}
use Rattle.std.proofs.lemmas.List.{length-append, length-map}
use Rattle.algebra.specs.Code as code
use Rattle.algebra.specs.Code.{checks}
use Rattle.algebra.proofs.Sealing.{length_seal}
use Rattle.checksum.specs.Finish.{finish}
use Rattle.fields.specs.Gf32.{gf32, gf32_numbers}
use Rattle.book.specs.Book.{Book, book_after, row, undoubted_place}
use Rattle.book.proofs.Rows.{row_append, row_sure}
use Rattle.slip.specs.Sealing.{check_symbols, elements_of, sealed_book}
use Rattle.slip.proofs.Sealing.{seal_held}
use Rattle.sheet.specs.Sealed.{sealed_row}

four_checks : checks finish ≡ 4
unfolding finish
four_checks = refl

limit_31 : finish.limit ≡ 31
unfolding finish
limit_31 = refl

target_length : length finish.target ≡ checks finish
unfolding finish
target_length = refl

module _ (b : Book) (eight : length b ≡ 8) where
  pub eight_held : sealed_book gf32_numbers gf32 finish b ≡ Ok (b ++ map undoubted_place (check_symbols gf32_numbers gf32 finish (row b)))
  eight_held = seal_held gf32_numbers gf32 finish b (omega arith) (omega (arith, four_checks, limit_31))

  pub eight_sealed : (next : Book) (symbols : List ℕ) → next ≡ book_after b (sealed_book gf32_numbers gf32 finish b) → symbols ≡ row next → symbols ≡ sealed_row (row b)
  eight_sealed next symbols e s =
      let more = check_symbols gf32_numbers gf32 finish (row b) in
      s ∙ ap row (e ∙ ap (book_after b) eight_held) ∙ row_append b (map undoubted_place more) ∙ ap (λ ys. row b ++ ys) (row_sure more)

  pub twelve_sealed : length (sealed_row (row b)) ≡ 12
  twelve_sealed =
      let cs = code.seal gf32 finish (elements_of gf32_numbers (row b)) in
      let l = length-map b (λ p. p.symbol) in
      let m = length-map cs gf32_numbers.number in
      let n = length_seal gf32 finish target_length (elements_of gf32_numbers (row b)) in
      length-append (row b) (check_symbols gf32_numbers gf32 finish (row b)) ∙ omega (arith, four_checks)
