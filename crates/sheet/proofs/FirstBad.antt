-- A line that is refused is refused for its first bad byte.
use Rattle.std.proofs.Common.{◌≡◌, ℕ, zero, suc, ◌+◌, ◌<◌, ◌≤◌, Bool, true, false, cond, eqb, ltb, leb, List, [], ◌∷◌, ◌++◌, length, take, get_or, Some, None, Ok, Err, Option, Result, sym, refl, ap, ◌∙◌, arith}
use Rattle.std.specs.Prelude.{All}
use Rattle.std.specs.Char.{to_ascii_lowercase}
use Rattle.std.specs.Option.{is_some}
use Rattle.std.proofs.lemmas.Bool.{eqb-true, eqb-false}
use Rattle.std.proofs.lemmas.Bool.Decides.{nat_tests}
use Rattle.std.proofs.lemmas.List.{length_push}
use Rattle.book.specs.Book.{Book, Place, fresh_book, undoubted_place, doubted_place}
use Rattle.book.specs.declared.slip_fault.SlipFault.TheVariants as slips
use Rattle.sheet.specs.Barred.{Bars, IsBarred, is_admissible, is_character, unspaced}
use Rattle.sheet.specs.Characters.{alphabet, read_character, symbol_from}
use Rattle.sheet.specs.Taking.{and_then, book_after_bytes, book_after_character, fault_at, is_other_case, refused_as}
use Rattle.sheet.specs.declared.characters.Case.{Case}
use Rattle.sheet.specs.declared.characters.Case.TheVariants.{Lower, Upper}
use Rattle.sheet.specs.declared.characters.Character.{Character}
use Rattle.sheet.specs.declared.characters.Character.TheVariants.{Symbol, QuestionMark}
use Rattle.sheet.specs.declared.fault.LineFault.{LineFault}
use Rattle.sheet.specs.declared.taking.ByteFault.{ByteFault}
use Rattle.sheet.specs.declared.taking.ByteFault.TheVariants.{OnSlip, OutsideSet, OtherCase}

not_ok : {X Y Z : Type 0} {x : X} {y : Y} → ◌≡◌ {A = Result X Y} (Ok x) (Err y) → Z
not_ok e = let z : ◌≡◌ {A = ℕ} 0 1 = cc in absurd (omega arith)

same_err : {X Y : Type 0} {x y : Y} → ◌≡◌ {A = Result X Y} (Err x) (Err y) → y ≡ x
same_err e = cc

-- a character of the set stands for a symbol below 32
one_symbol : (n v m : ℕ) (rest : Option Character) (here : Bool) → cond here (Some (Symbol n)) rest ≡ Some (Symbol v) → n < m → (rest ≡ Some (Symbol v) → v < m) → v < m
one_symbol n v m rest true e low more = let same : n ≡ v = cc in omega arith
one_symbol n v m rest false e low more = more e

symbol_below : (cs : List ℕ) (n byte v : ℕ) → symbol_from n cs byte ≡ Some (Symbol v) → v < n + length cs
symbol_below [] n byte v e = let z : ◌≡◌ {A = ℕ} 0 1 = cc in absurd (omega arith)
symbol_below (c ∷ cs) n byte v e =
    one_symbol n v (n + length (c ∷ cs)) (symbol_from (n + 1) cs byte) (eqb byte c) e (omega arith) (λ f. let l = symbol_below cs (n + 1) byte v f in omega arith)

of_set : (byte v : ℕ) (mark : Bool) (other : Option Character) → cond mark (Some QuestionMark) other ≡ Some (Symbol v) → other ≡ Some (Symbol v)
of_set byte v true other e = cc
of_set byte v false other e = e

below_32 : (byte v : ℕ) → read_character byte ≡ Some (Symbol v) → v < 32
below_32 byte v e = symbol_below alphabet 0 (to_ascii_lowercase byte) v (of_set byte v (eqb byte 63) _ e)

-- a question mark is one byte, and no letter
one_mark : (n : ℕ) (rest : Option Character) (here : Bool) → (rest ≡ Some QuestionMark → ⊥) → cond here (Some (Symbol n)) rest ≡ Some QuestionMark → ⊥
one_mark n rest true none e = cc
one_mark n rest false none e = none e

no_mark_of : (cs : List ℕ) (n byte : ℕ) → symbol_from n cs byte ≡ Some QuestionMark → ⊥
no_mark_of [] n byte e = cc
no_mark_of (c ∷ cs) n byte e = one_mark n (symbol_from (n + 1) cs byte) (eqb byte c) (no_mark_of cs (n + 1) byte) e

mark_only : (byte : ℕ) (mark : Bool) (other : Option Character) → eqb byte 63 ≡ mark → (other ≡ Some QuestionMark → ⊥) → cond mark (Some QuestionMark) other ≡ Some QuestionMark → byte ≡ 63
mark_only byte true other m none e = eqb-true byte 63 m
mark_only byte false other m none e = absurd (none e)

question_mark : (byte : ℕ) → read_character byte ≡ Some QuestionMark → byte ≡ 63
question_mark byte e = mark_only byte (eqb byte 63) _ refl (no_mark_of alphabet 0 (to_ascii_lowercase byte)) e

no_letter : (case : Case) → is_other_case case 63 ≡ false
no_letter Lower = refl
no_letter Upper = refl

module _ (case : Case) where
  -- the first bad byte of some, of which the first has a place, after so many symbols
  abbrev BadByte : ℕ → ℕ → List ℕ → LineFault → Type 0
  BadByte held start bytes fault =
      (i : ℕ) × (n : ℕ) × (why : ByteFault) × (i < length bytes) × All (λ byte. is_admissible case byte ≡ true) (take i bytes)
      × (n ≡ held + length (unspaced (take i bytes))) × (n ≤ 89) × Bars case n (get_or bytes i 0) why × (fault ≡ fault_at (start + i) why)

  module _ (held start byte : ℕ) (bytes : List ℕ) (fault : LineFault) where
    at_once : held ≤ 89 → (why : ByteFault) → Bars case held byte why → fault ≡ fault_at start why → BadByte held start (byte ∷ bytes) fault
    at_once room why bars e = (0, held, why, omega arith, (λ k d h. absurd (omega arith)), omega arith, room, bars, e ∙ ap (λ (n : ℕ). fault_at n why) (omega arith))

    all_before : (xs : List ℕ) → is_admissible case byte ≡ true → All (λ b. is_admissible case b ≡ true) xs → All (λ b. is_admissible case b ≡ true) (byte ∷ xs)
    all_before xs fine all zero d h = fine
    all_before xs fine all (suc k) d h = all k d (omega arith)

    later : (more : ℕ) → is_admissible case byte ≡ true → ((xs : List ℕ) → held + length (unspaced (byte ∷ xs)) ≡ more + length (unspaced xs))
        → BadByte more (start + 1) bytes fault → BadByte held start (byte ∷ bytes) fault
    later more fine counts (i, n, why, within, before, counted, room, here, told) =
        (suc i, n, why, omega arith, all_before (take i bytes) fine before, counted ∙ sym (counts (take i bytes)), room, here, told ∙ ap (λ (k : ℕ). fault_at k why) (omega arith))

  module _ (byte start : ℕ) (bytes : List ℕ) (b : Book) (fault : LineFault) (room : length b ≤ 89)
      (rest : (c : Book) → length c ≤ 89 → book_after_bytes true case (start + 1) bytes c ≡ Err fault → BadByte (length c) (start + 1) bytes fault) where
    abbrev Next : Result Book ByteFault → Type 0
    Next taken = and_then (refused_as (fault_at start) taken) (book_after_bytes true case (start + 1) bytes) ≡ Err fault

    a_space : eqb byte 32 ≡ true → Next (Ok b) → BadByte (length b) start (byte ∷ bytes) fault
    a_space s e = later (length b) start byte bytes fault (length b) (simp s) (λ xs. simp s) (rest b room e)

    module _ (no_space : eqb byte 32 ≡ false) (character : is_character byte ≡ true) (own : is_other_case case byte ≡ false) where
      taken : (place : Place) (full : Bool) → leb 89 (length b) ≡ full
          → Next (refused_as OnSlip (cond full (Err slips.Full) (Ok (b ++ place ∷ [])))) → BadByte (length b) start (byte ∷ bytes) fault
      taken place true f e = at_once (length b) start byte bytes fault room (OnSlip slips.Full) (character, own, grind (arith, nat_tests), refl) (same_err e)
      taken place false f e =
          let more = length_push b place in
          let few : length b < 89 = grind (arith, nat_tests) in
          later (length b) start byte bytes fault (length (b ++ place ∷ [])) (simp (no_space, character, own)) (λ xs. simp no_space (omega arith)) (rest (b ++ place ∷ []) (omega arith) e)

      written : (v : ℕ) (high : Bool) → v < 32 → ltb 31 v ≡ high
          → Next (refused_as OnSlip (cond high (Err slips.Symbol) (cond (leb 89 (length b)) (Err slips.Full) (Ok (b ++ undoubted_place v ∷ []))))) → BadByte (length b) start (byte ∷ bytes) fault
      written v true low h e = absurd (grind (arith, nat_tests))
      written v false low h e = taken (undoubted_place v) (leb 89 (length b)) refl e

    a_symbol : (v : ℕ) (other : Bool) → eqb byte 32 ≡ false → read_character byte ≡ Some (Symbol v) → is_other_case case byte ≡ other
        → Next (cond other (Err OtherCase) (refused_as OnSlip (cond (ltb 31 v) (Err slips.Symbol) (cond (leb 89 (length b)) (Err slips.Full) (Ok (b ++ undoubted_place v ∷ []))))))
        → BadByte (length b) start (byte ∷ bytes) fault
    a_symbol v true s is o e = at_once (length b) start byte bytes fault room OtherCase (ap is_some is, o) (same_err e)
    a_symbol v false s is o e = written s (ap is_some is) o v (ltb 31 v) (below_32 byte v is) refl e

    a_question_mark : eqb byte 32 ≡ false → read_character byte ≡ Some QuestionMark
        → Next (refused_as OnSlip (cond (leb 89 (length b)) (Err slips.Full) (Ok (b ++ doubted_place 0 ∷ [])))) → BadByte (length b) start (byte ∷ bytes) fault
    a_question_mark s is e =
        taken s (ap is_some is) (ap (is_other_case case) (question_mark byte is) ∙ no_letter case) (doubted_place 0) (leb 89 (length b)) refl e

    a_byte : (space : Bool) (says : Option Character) → eqb byte 32 ≡ space → read_character byte ≡ says
        → Next (cond space (Ok b) (book_after_character true case byte says b)) → BadByte (length b) start (byte ∷ bytes) fault
    a_byte true says s is e = a_space s e
    a_byte false (Some (Symbol v)) s is e = a_symbol v (is_other_case case byte) s is refl e
    a_byte false (Some QuestionMark) s is e = a_question_mark s is e
    a_byte false None s is e = at_once (length b) start byte bytes fault room OutsideSet (eqb-false byte 32 s, ap is_some is) (same_err e)

  first_bad : (bytes : List ℕ) (start : ℕ) (b : Book) (fault : LineFault) → length b ≤ 89 → book_after_bytes true case start bytes b ≡ Err fault → BadByte (length b) start bytes fault
  first_bad [] start b fault room e = not_ok e
  first_bad (byte ∷ bytes) start b fault room e =
      a_byte byte start bytes b fault room (λ c few f. first_bad bytes (start + 1) c fault few f) (eqb byte 32) (read_character byte) refl refl e

  pub barred : (groups : List ℕ) (fault : LineFault) → book_after_bytes true case 0 groups fresh_book ≡ Err fault → IsBarred case groups fault
  barred groups fault e =
      let (i, n, why, within, before, counted, room, here, told) = first_bad groups 0 fresh_book fault (omega arith) e in
      record {
        place = i;
        held = n;
        why = why;
        within = within;
        before = before;
        counted = counted ∙ omega arith;
        room = room;
        here = here;
        told = told ∙ ap (λ (k : ℕ). fault_at k why) (omega arith);
      }
