-- To take the pieces of a line is to take the bytes before its slash; and where the pieces are in the line.
use Rattle.std.proofs.Common.{◌≡◌, ℕ, ◌+◌, ◌≤◌, Bool, true, false, cond, eqb, List, [], ◌∷◌, ◌++◌, length, Ok, Err, Result, sym, refl, ap, ◌∙◌, arith}
use Rattle.std.specs.Prelude.{⊤}
use Rattle.std.specs.List.{position_or_len}
use Rattle.std.proofs.lemmas.List.{length_push}
use Rattle.book.specs.Book.{Book, fresh_book}
use Rattle.sheet.proofs.Fronts.{one_before}
use Rattle.sheet.specs.Pieces.{Part, group, remark, with_group_before, pieces_after}
use Rattle.sheet.specs.Taking.{and_then, before_slash, book_after_byte, book_after_bytes, book_after_parts, fault_at, line_case, refused_as, take_line}
use Rattle.sheet.specs.declared.characters.Case.{Case}
use Rattle.sheet.specs.declared.fault.LineFault.{LineFault}

-- each group ends at a place at most
abbrev pub AllEndBy : ℕ → List Part → Type 0
AllEndBy n [] = ⊤
AllEndBy n (group place bytes ∷ parts) = (place + length bytes ≤ n) × AllEndBy n parts
AllEndBy n (remark place bytes ∷ parts) = AllEndBy n parts

closed_ends : (n place : ℕ) (front : List ℕ) (parts : List Part) → place + length front ≤ n → AllEndBy n parts → AllEndBy n (with_group_before place front parts)
closed_ends n place [] parts h all = all
closed_ends n place (byte ∷ bytes) parts h all = (h, all)

ends_one : (n place byte : ℕ) (front bytes : List ℕ) (slash space : Bool) → place + length front ≤ n → AllEndBy n (pieces_after (place + length front + 1) [] bytes) → AllEndBy n (pieces_after place (front ++ byte ∷ []) bytes)
    → AllEndBy n (cond slash (with_group_before place front (remark (place + length front + 1) bytes ∷ [])) (cond space (with_group_before place front (pieces_after (place + length front + 1) [] bytes)) (pieces_after place (front ++ byte ∷ []) bytes)))
ends_one n place byte front bytes true space h apart on = closed_ends n place front _ h tt
ends_one n place byte front bytes false true h apart on = closed_ends n place front _ h apart
ends_one n place byte front bytes false false h apart on = on

pub all_end : (line front : List ℕ) (n place : ℕ) → place + length front + length line ≤ n → AllEndBy n (pieces_after place front line)
all_end [] front n place h = closed_ends n place front [] (omega arith) tt
all_end (byte ∷ bytes) front n place h =
    let l = length_push front byte in
    ends_one n place byte front bytes (eqb byte 47) (eqb byte 32) (omega arith) (all_end bytes [] n (place + length front + 1) (omega arith)) (all_end bytes (front ++ byte ∷ []) n place (omega arith))

then_same : (r : Result Book LineFault) (f g : Book → Result Book LineFault) → ((c : Book) → f c ≡ g c) → and_then r f ≡ and_then r g
then_same (Ok b) f g same = same b
then_same (Err fault) f g same = refl

then_then : (r : Result Book LineFault) (f g : Book → Result Book LineFault) → and_then (and_then r f) g ≡ and_then r (λ c. and_then (f c) g)
then_then (Ok b) f g = refl
then_then (Err fault) f g = refl

then_ok : (r : Result Book LineFault) → and_then r (λ c. Ok c) ≡ r
then_ok (Ok b) = refl
then_ok (Err fault) = refl

module _ (case : Case) where
  abbrev taken_at : ℕ → ℕ → Book → Result Book LineFault
  taken_at byte place b = refused_as (fault_at place) (book_after_byte true case byte b)

  push : (front : List ℕ) (place byte : ℕ) (b : Book) → book_after_bytes true case place (front ++ byte ∷ []) b ≡ and_then (book_after_bytes true case place front b) (taken_at byte (place + length front))
  push [] place byte b = then_ok (taken_at byte place b) ∙ ap (λ (n : ℕ). taken_at byte n b) (omega arith)
  push (first ∷ front) place byte b =
      then_same (taken_at first place b) _ _ (λ c. push front (place + 1) byte c)
      ∙ sym (then_then (taken_at first place b) (book_after_bytes true case (place + 1) front) (taken_at byte (place + 1 + length front)))
      ∙ ap (λ (n : ℕ). and_then (book_after_bytes true case place (first ∷ front) b) (taken_at byte n)) (omega arith)

  closed : (place : ℕ) (front : List ℕ) (parts : List Part) (b : Book) → book_after_parts true case (with_group_before place front parts) b ≡ and_then (book_after_bytes true case place front b) (book_after_parts true case parts)
  closed place [] parts b = refl
  closed place (byte ∷ bytes) parts b = refl

  -- a space does nothing
  a_space : (place byte : ℕ) (bytes : List ℕ) (c : Book) → eqb byte 32 ≡ true → book_after_bytes true case place (byte ∷ bytes) c ≡ book_after_bytes true case (place + 1) bytes c
  a_space place byte bytes c s = simp s

  module _ (place byte : ℕ) (front bytes : List ℕ) (b : Book)
      (apart : (c : Book) → book_after_parts true case (pieces_after (place + length front + 1) [] bytes) c ≡ book_after_bytes true case (place + length front + 1 + 0) (before_slash bytes) c)
      (on : book_after_parts true case (pieces_after place (front ++ byte ∷ []) bytes) b ≡ and_then (book_after_bytes true case place (front ++ byte ∷ []) b) (book_after_bytes true case (place + length (front ++ byte ∷ [])) (before_slash bytes))) where
    one_byte : (slash space : Bool) → eqb byte 32 ≡ space
        → book_after_parts true case (cond slash (with_group_before place front (remark (place + length front + 1) bytes ∷ [])) (cond space (with_group_before place front (pieces_after (place + length front + 1) [] bytes)) (pieces_after place (front ++ byte ∷ []) bytes))) b
        ≡ and_then (book_after_bytes true case place front b) (book_after_bytes true case (place + length front) (cond slash [] (byte ∷ before_slash bytes)))
    one_byte true space s = closed place front _ b
    one_byte false true s =
        closed place front _ b
        ∙ then_same (book_after_bytes true case place front b) _ _ (λ c. apart c ∙ ap (λ (n : ℕ). book_after_bytes true case n (before_slash bytes) c) (omega arith) ∙ sym (a_space (place + length front) byte (before_slash bytes) c s))
    one_byte false false s =
        let l = length_push front byte in
        on ∙ ap (λ r. and_then r (book_after_bytes true case (place + length (front ++ byte ∷ [])) (before_slash bytes))) (push front place byte b)
        ∙ then_then (book_after_bytes true case place front b) (taken_at byte (place + length front)) (book_after_bytes true case (place + length (front ++ byte ∷ [])) (before_slash bytes))
        ∙ ap (λ (n : ℕ). and_then (book_after_bytes true case place front b) (λ c. and_then (taken_at byte (place + length front) c) (book_after_bytes true case n (before_slash bytes)))) (omega arith)

  by_bytes : (line front : List ℕ) (place : ℕ) (b : Book) → book_after_parts true case (pieces_after place front line) b ≡ and_then (book_after_bytes true case place front b) (book_after_bytes true case (place + length front) (before_slash line))
  by_bytes [] front place b = closed place front [] b
  by_bytes (byte ∷ bytes) front place b =
      one_byte place byte front bytes b (λ c. by_bytes bytes [] (place + length front + 1) c) (by_bytes bytes (front ++ byte ∷ []) place b) (eqb byte 47) (eqb byte 32) refl
      ∙ ap (λ (groups : List ℕ). and_then (book_after_bytes true case place front b) (book_after_bytes true case (place + length front) groups)) (sym (one_before (eqb byte 47) byte (position_or_len (λ x. eqb x 47) bytes) bytes))

pub taken_by_bytes : (line : List ℕ) → take_line true line ≡ book_after_bytes true (line_case (before_slash line)) 0 (before_slash line) fresh_book
taken_by_bytes line = by_bytes (line_case (before_slash line)) line [] 0 fresh_book
