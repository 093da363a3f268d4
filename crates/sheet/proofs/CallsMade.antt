-- A line that is taken makes the calls of its pieces.
use Rattle.std.proofs.Common.{◌≡◌, ℕ, ◌+◌, Bool, true, false, cond, eqb, List, [], ◌∷◌, ◌++◌, Some, None, Ok, Err, Option, Result, sym, refl, ap, ◌∙◌, subst, arith}
use Rattle.std.specs.List.{flat_map}
use Rattle.std.proofs.lemmas.Bool.{eqb-true}
use Rattle.book.specs.Book as book
use Rattle.book.specs.Book.{Book, answer_of, book_after, fresh_book}
use Rattle.book.specs.Calls.{BookCall, Follows, plain_answer, done, wipe, write, blank, writes, blanks, wipes}
use Rattle.book.specs.declared.call_fault.CallFault.TheVariants.{Slip as of_slip}
use Rattle.book.specs.Story.{Leads}
use Rattle.book.specs.declared.slip_fault.SlipFault.{SlipFault}
use Rattle.sheet.specs.Pieces.{Part, group, remark, pieces}
use Rattle.sheet.specs.Calls.{all_done, call_of, calls_of, calls_of_bytes, calls_of_part}
use Rattle.sheet.specs.Characters.{read_character}
use Rattle.sheet.specs.Taking.{before_slash, is_other_case, line_case, refused_as, fault_at, and_then, book_after_character, book_after_bytes, book_after_parts, take_line}
use Rattle.sheet.specs.declared.characters.Character.{Character}
use Rattle.sheet.specs.declared.characters.Character.TheVariants.{Symbol, QuestionMark}
use Rattle.sheet.specs.declared.characters.Case.{Case}
use Rattle.sheet.specs.declared.fault.LineFault.{LineFault}
use Rattle.sheet.specs.declared.taking.ByteFault.{ByteFault}
use Rattle.sheet.specs.declared.taking.ByteFault.TheVariants.{OnSlip, OtherCase}
use Rattle.sheet.proofs.BytesTaken.{accepted, refused}

never : {X : Type 0} (fault : LineFault) (b : Book) → ◌≡◌ {A = Result Book LineFault} (Err fault) (Ok b) → X
never fault b e = let z : ◌≡◌ {A = ℕ} 0 1 = cc in absurd (omega arith)

-- a space says nothing
space_outside : (byte : ℕ) → eqb byte 32 ≡ true → read_character byte ≡ None
space_outside byte s = ap read_character (eqb-true byte 32 s)

no_call : (said : Option Character) → said ≡ None → call_of said ≡ []
no_call said e = ap call_of e

-- bytes that are all taken lead from book to book by calls that are all accepted, if what follows does
module _ (case : Case) (place byte : ℕ) (bytes : List ℕ) (b last : Book) (next : Book → Result Book LineFault) (calls : List BookCall)
    (rest : (c : Book) → and_then (book_after_bytes true case (place + 1) bytes c) next ≡ Ok last → Leads c (all_done (calls_of_bytes bytes ++ calls)) last) where
  abbrev After : Result Book ByteFault → Type 0
  After taken = and_then (and_then (refused_as (fault_at place) taken) (book_after_bytes true case (place + 1) bytes)) next ≡ Ok last

  call_leads : (call : BookCall) (called : Result Book SlipFault) → Follows b call (plain_answer of_slip called) (book_after b called)
      → After (refused_as OnSlip called) → Leads b (all_done (call ∷ (calls_of_bytes bytes ++ calls))) last
  call_leads call (Ok then) follows e = (then, follows, rest then e)
  call_leads call (Err fault) follows e = never _ last e

  write_leads : (v : ℕ) (other : Bool) (called : Result Book SlipFault) → Follows b (write v) (plain_answer of_slip called) (book_after b called)
      → After (cond other (Err OtherCase) (refused_as OnSlip called)) → Leads b (all_done (write v ∷ (calls_of_bytes bytes ++ calls))) last
  write_leads v true called follows e = never _ last e
  write_leads v false called follows e = call_leads (write v) called follows e

  byte_leads : (space : Bool) (says : Option Character) → eqb byte 32 ≡ space → read_character byte ≡ says
      → After (cond space (Ok b) (book_after_character true case byte says b)) → Leads b (all_done ((call_of says ++ calls_of_bytes bytes) ++ calls)) last
  byte_leads true says s is e =
      subst (λ (made : List BookCall). Leads b (all_done ((made ++ calls_of_bytes bytes) ++ calls)) last) (sym (no_call says (sym is ∙ space_outside byte s))) (rest b e)
  byte_leads false (Some (Symbol v)) s is e = write_leads v (is_other_case case byte) (book.write v b) writes e
  byte_leads false (Some QuestionMark) s is e = call_leads blank (book.blank b) blanks e
  byte_leads false None s is e = never _ last e

bytes_lead : (case : Case) (place : ℕ) (bytes : List ℕ) (b last : Book) (next : Book → Result Book LineFault) (calls : List BookCall)
    → ((c : Book) → next c ≡ Ok last → Leads c (all_done calls) last) → and_then (book_after_bytes true case place bytes b) next ≡ Ok last → Leads b (all_done (calls_of_bytes bytes ++ calls)) last
bytes_lead case place [] b last next calls then e = then b e
bytes_lead case place (byte ∷ bytes) b last next calls then e =
    byte_leads case place byte bytes b last next calls (λ c. bytes_lead case (place + 1) bytes c last next calls then) (eqb byte 32) (read_character byte) refl refl e

parts_lead : (case : Case) (parts : List Part) (b last : Book) → book_after_parts true case parts b ≡ Ok last → Leads b (all_done (flat_map calls_of_part parts)) last
parts_lead case [] b last e = cc
parts_lead case (group place bytes ∷ parts) b last e =
    bytes_lead case place bytes b last (book_after_parts true case parts) (flat_map calls_of_part parts) (λ c f. parts_lead case parts c last f) e
parts_lead case (remark place bytes ∷ parts) b last e = parts_lead case parts b last e

module _ (line : List ℕ) (b last : Book) (r : Result (Unit {0}) LineFault) (a : r ≡ answer_of (take_line true line)) (e : last ≡ book_after fresh_book (take_line true line)) where
  pub line_leads : r ≡ Ok tt → Leads b (all_done (calls_of line)) last
  line_leads ok =
      (fresh_book, wipes, parts_lead (line_case (before_slash line)) (pieces line) fresh_book last (accepted (take_line true line) last (sym ok ∙ a) e))

  pub only_wiped : (fault : LineFault) → r ≡ Err fault → Leads b ((wipe, done) ∷ []) last
  only_wiped fault err = (fresh_book, wipes, e ∙ ap (book_after fresh_book) (refused (take_line true line) fault (sym err ∙ a)))
