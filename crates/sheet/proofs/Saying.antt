-- What a typed line says, and that it says nothing else.
use Rattle.std.proofs.Common.{◌≡◌, ℕ, true, List, map, Some, None, Ok, Err, Option, Result, sym, refl, ap, ◌∙◌, subst, ap₂}
use Rattle.book.specs.Book.{Book, row, undoubted_place}
use Rattle.book.specs.Calls.{BookAnswer, Follows, IsDecided, SearchGives, done, listed, listing_of, refused, settle, settled_book, settles, barred, none_near, one_near}
use Rattle.algebra.specs.NumericCode.{NumericCode}
use Rattle.book.specs.Mending.{changes, nonzero_count}
use Rattle.book.specs.declared.call_fault.CallFault.{CallFault}
use Rattle.book.specs.declared.call_fault.CallFault.TheVariants as calls
use Rattle.book.specs.declared.code_fault.CodeFault.{CodeFault}
use Rattle.book.specs.declared.slip_fault.SlipFault.{SlipFault}
use Rattle.book.specs.declared.record.Record.{Record}
use Rattle.book.proofs.Rows.{row_sure}
use Rattle.sheet.specs.ReadingOff.{read_off}
use Rattle.sheet.specs.Taking.{take_line}
use Rattle.sheet.specs.declared.fault.LineFault.{LineFault}
use Rattle.sheet.specs.Shown.{OnlySays, Says, not_taken, not_mended, not_read, finishes}
use Rattle.sheet.specs.declared.reading.Reading.{Reading}
use Rattle.sheet.specs.declared.sheet_fault.Cause.{Cause}
use Rattle.sheet.specs.declared.sheet_fault.Cause.TheVariants as causes

-- a line is not both taken and refused
taken_refused : {X Y : Type 0} {r : Result X Y} {x : X} {y : Y} → r ≡ Ok x → r ≡ Err y → ⊥
taken_refused e f = cc

same_ok : {X Y : Type 0} {r : Result X Y} {x y : X} → r ≡ Ok x → r ≡ Ok y → x ≡ y
same_ok e f = cc

same_err : {X Y : Type 0} {r : Result X Y} {x y : Y} → r ≡ Err x → r ≡ Err y → x ≡ y
same_err e f = cc

module _ (C : NumericCode) (line : List ℕ) (fault : LineFault) (e : take_line true line ≡ Err fault) where
  nothing_but_refused : (other : Result Reading Cause) → Says C line other → other ≡ Err (causes.Line fault)
  nothing_but_refused _ (not_taken f) = ap (λ x. Err (causes.Line x)) (same_err f e)
  nothing_but_refused _ (not_mended f _) = absurd (taken_refused f e)
  nothing_but_refused _ (not_read f _ _) = absurd (taken_refused f e)
  nothing_but_refused _ (finishes f _ _) = absurd (taken_refused f e)

  pub only_refused : OnlySays C line (Err (causes.Line fault))
  only_refused = record { says = not_taken e; nothing_else = nothing_but_refused }

-- how a settle answers
module _ {C : NumericCode} {r w : ℕ} {b : Book} where
  mends_listed : {a : BookAnswer} {found : Option (List ℕ)} {cs : List Record} {i j : ℕ} → SearchGives C r w b a found → a ≡ listed cs i j
      → (n : List ℕ) × SearchGives C r w b (listing_of C b n) (Some n) × (j ≡ nonzero_count C (changes C b n)) × (settled_book b found ≡ map undoubted_place n)
  mends_listed (barred f) e = cc
  mends_listed (none_near f none) e = cc
  mends_listed (one_near {n = n} f near) e = (n, one_near f near, cc, refl)

  mends_refused : {a : BookAnswer} {found : Option (List ℕ)} {why : CallFault} → SearchGives C r w b a found → a ≡ refused why → SearchGives C r w b (refused why) None
  mends_refused (barred f) e = subst (λ x. SearchGives C r w b x None) e (barred f)
  mends_refused (none_near f none) e = subst (λ x. SearchGives C r w b x None) e (none_near f none)
  mends_refused (one_near f near) e = cc

  mends_not_done : {a : BookAnswer} {found : Option (List ℕ)} → SearchGives C r w b a found → a ≡ done → ⊥
  mends_not_done (barred f) e = cc
  mends_not_done (none_near f none) e = cc
  mends_not_done (one_near f near) e = cc

pub settle_listed : {C : NumericCode} {r w : ℕ} {b d : Book} {cs : List Record} {i j : ℕ} → Follows b (settle C r w) (listed cs i j) d
    → (n : List ℕ) × SearchGives C r w b (listing_of C b n) (Some n) × (j ≡ nonzero_count C (changes C b n)) × (d ≡ map undoubted_place n)
settle_listed (settles m) = mends_listed m refl

pub settle_refused : {C : NumericCode} {r w : ℕ} {b d : Book} {why : CallFault} → Follows b (settle C r w) (refused why) d → SearchGives C r w b (refused why) None
settle_refused (settles m) = mends_refused m refl

-- no refusal of a settle is the slip's
mends_not_slip : {C : NumericCode} {r w : ℕ} {b : Book} {a : BookAnswer} {found : Option (List ℕ)} {fault : SlipFault} → SearchGives C r w b a found → a ≡ refused (calls.Slip fault) → ⊥
mends_not_slip (barred f) e = cc
mends_not_slip (none_near f none) e = cc
mends_not_slip (one_near f near) e = cc

pub settle_not_slip : {C : NumericCode} {r w : ℕ} {b d : Book} {fault : SlipFault} → Follows b (settle C r w) (refused (calls.Slip fault)) d → ⊥
settle_not_slip (settles m) = mends_not_slip m refl

pub settle_not_done : {C : NumericCode} {r w : ℕ} {b d : Book} → Follows b (settle C r w) done d → ⊥
settle_not_done (settles m) = mends_not_done m refl

-- what is said of the book that a line is taken as
data Reads (C : NumericCode) (b : Book) : Result Reading Cause → Type 0 where
  barely : {fault : CodeFault} → SearchGives C 16 216 b (refused (calls.Code fault)) None → Reads C b (Err (causes.Code fault))
  badly : {n : List ℕ} {fault : LineFault} → SearchGives C 16 216 b (listing_of C b n) (Some n) → read_off n ≡ Err fault → Reads C b (Err (causes.Line fault))
  wholly : {n : List ℕ} {sail tenths : ℕ} → SearchGives C 16 216 b (listing_of C b n) (Some n) → read_off n ≡ Ok (sail, tenths)
      → Reads C b (Ok (record { changes = nonzero_count C (changes C b n); sail = sail; tenths = tenths }))

of_same : {C : NumericCode} {b d : Book} {outcome : Result Reading Cause} → b ≡ d → Reads C b outcome → Reads C d outcome
of_same {C} {b} {d} {outcome} e reads = subst (λ x. Reads C x outcome) e reads

module _ (C : NumericCode) (decided : IsDecided (settle C 16 216)) (line : List ℕ) (b : Book) (taken : take_line true line ≡ Ok b) where
  reads : (outcome : Result Reading Cause) → Says C line outcome → Reads C b outcome
  reads _ (not_taken f) = absurd (taken_refused taken f)
  reads _ (not_mended f m) = of_same (same_ok f taken) (barely m)
  reads _ (not_read f m o) = of_same (same_ok f taken) (badly m o)
  reads _ (finishes f m o) = of_same (same_ok f taken) (wholly m o)

  one_answer : {a a' : BookAnswer} {found found' : Option (List ℕ)} → SearchGives C 16 216 b a found → SearchGives C 16 216 b a' found' → a ≡ a'
  one_answer m k = (decided b _ _ _ _ (settles m) (settles k)).0

  one_row : {a a' : BookAnswer} {n n' : List ℕ} → SearchGives C 16 216 b a (Some n) → SearchGives C 16 216 b a' (Some n') → n ≡ n'
  one_row {n = n} {n' = n'} m k = sym (row_sure n) ∙ ap row (decided b _ _ _ _ (settles m) (settles k)).1 ∙ row_sure n'

  not_both : {X : Type 0} {why : CallFault} {cs : List Record} {i j : ℕ} {found found' : Option (List ℕ)} → SearchGives C 16 216 b (refused why) found → SearchGives C 16 216 b (listed cs i j) found' → X
  not_both m k = let e = one_answer m k in cc

  same_why : {why why' : CodeFault} → ◌≡◌ {A = BookAnswer} (refused (calls.Code why)) (refused (calls.Code why')) → why ≡ why'
  same_why e = cc

  one_reading : (x y : Result Reading Cause) → Reads C b x → Reads C b y → y ≡ x
  one_reading _ _ (barely m) (barely k) = ap (λ (w : CodeFault). Err (causes.Code w)) (same_why (one_answer k m))
  one_reading _ _ (barely m) (badly k _) = not_both m k
  one_reading _ _ (barely m) (wholly k _) = not_both m k
  one_reading _ _ (badly m _) (barely k) = not_both k m
  one_reading _ _ (badly m o) (badly k q) = ap (λ (f : LineFault). Err (causes.Line f)) (same_err q (ap read_off (one_row k m) ∙ o))
  one_reading _ _ (badly m o) (wholly k q) = absurd (taken_refused (ap read_off (one_row m k) ∙ q) o)
  one_reading _ _ (wholly m _) (barely k) = not_both k m
  one_reading _ _ (wholly m o) (badly k q) = absurd (taken_refused o (ap read_off (one_row m k) ∙ q))
  one_reading _ _ (wholly {n = n} m o) (wholly {n = n'} k q) =
      let same = one_row k m in
      let of : ℕ → ℕ × ℕ → Result Reading Cause = λ m p. Ok (record { changes = m; sail = p.0; tenths = p.1 }) in
      ap₂ of (ap (λ (v : List ℕ). nonzero_count C (changes C b v)) same) (same_ok q (ap read_off same ∙ o))

  pub only : (outcome : Result Reading Cause) → Says C line outcome → OnlySays C line outcome
  only outcome says = record { says = says; nothing_else = λ other s. one_reading outcome other (reads outcome says) (reads other s) }

  -- a settle that listed, and what its row is read off as
  module _ {d : Book} {cs : List Record} {i j : ℕ} (follows : Follows b (settle C 16 216) (listed cs i j) d) (symbols : List ℕ) (is_row : symbols ≡ row d) where
    pub only_unread : (fault : LineFault) → Err fault ≡ read_off symbols → OnlySays C line (Err (causes.Line fault))
    only_unread fault e =
        let found = settle_listed follows in
        let same : symbols ≡ found.0 = is_row ∙ ap row found.3 ∙ row_sure found.0 in
        only _ (not_read taken found.1 (ap read_off (sym same) ∙ sym e))

    pub only_read : (sail tenths : ℕ) → Ok (sail, tenths) ≡ read_off symbols → OnlySays C line (Ok (record { changes = j; sail = sail; tenths = tenths }))
    only_read sail tenths e =
        let found = settle_listed follows in
        let same : symbols ≡ found.0 = is_row ∙ ap row found.3 ∙ row_sure found.0 in
        only _ (
        subst (λ (m : ℕ). Says C line (Ok (record { changes = m; sail = sail; tenths = tenths }))) (sym found.2)
        (finishes taken found.1 (ap read_off (sym same) ∙ sym e))
        )
