-- What a seal makes of a book.
use Rattle.std.proofs.Common.{◌≡◌, ℕ, ◌+◌, ◌<◌, ◌≤◌, List, ◌++◌, map, length, Ok, sym, ap, ◌∙◌, subst, arith}
use Rattle.std.proofs.lemmas.List.{map-append}
use Rattle.std.proofs.lemmas.Bool.{ne_eqb, le-ltb}
use Rattle.std.proofs.lemmas.Grind.{common_steps}
use Rattle.algebra.proofs.Residue.{residue_append}
use Rattle.algebra.specs.Code as code
use Rattle.algebra.specs.Code.{Code, checks, IsSoundRow}
use Rattle.algebra.specs.Field.{FieldOn, Enumeration}
use Rattle.algebra.proofs.Sealing.{sealed_sound}
use Rattle.book.specs.Book.{Book, row, undoubted_place}
use Rattle.book.proofs.Numbers.{elements_numbers}
use Rattle.book.proofs.Rows.{row_append, row_sure}
use Rattle.slip.specs.Sealing.{elements_of, check_symbols, sealed_book}

module _ {S E : Type 0} (N : Enumeration S) (F : FieldOn S) (C : Code S E) where
  pub sealed_book_sound : length C.target ≡ checks C → (b : Book) → IsSoundRow F C (elements_of N (row (b ++ map undoubted_place (check_symbols N F C (row b)))))
  sealed_book_sound target_length b =
      let cs = code.seal F C (elements_of N (row b)) in
      let symbols : elements_of N (row (b ++ map undoubted_place (map N.number cs))) ≡ elements_of N (row b) ++ cs =
      ap (elements_of N) (row_append b (map undoubted_place (map N.number cs)) ∙ ap (λ (vs : List ℕ). row b ++ vs) (row_sure (map N.number cs)))
      ∙ map-append N.element (row b) (map N.number cs)
      ∙ ap (λ (xs : List S). elements_of N (row b) ++ xs) (elements_numbers N cs) in
      subst (IsSoundRow F C) (sym symbols) (sealed_sound F C target_length (elements_of N (row b)))

  pub seal_held : (b : Book) → 0 < length b → length b + checks C ≤ C.limit → sealed_book N F C b ≡ Ok (b ++ map undoubted_place (check_symbols N F C (row b)))
  seal_held b h k = simp (ne_eqb (length b) 0 (λ e. omega arith), le-ltb C.limit (length b + checks C) k)

-- the residue after one symbol more
pub ruleset residue_steps = (residue_append, common_steps)
