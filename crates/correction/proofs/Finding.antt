-- From a proposal and what the checker says of it to the answers of solve and settle.
use Rattle.std.specs.List.{AllByRecursion}
use Rattle.std.proofs.Common.{◌≡◌, ℕ, ◌+◌, ◌*◌, ◌<◌, ◌≤◌, Bool, true, false, Decides, List, ◌++◌, map, length, take, drop, Some, None, Ok, Option, sym, refl, ap, ap₂, ◌∙◌, subst, arith}
use Rattle.std.proofs.lemmas.List.{take_at}
use Rattle.std.proofs.lemmas.Bool.Decides.{nat_tests, not_from_Decides}
use Rattle.std.specs.Option.{MatchOption, ok_or}
use Rattle.std.specs.Bool.{then_some}
use Rattle.algebra.specs.Field.{FieldOn, Enumeration}
use Rattle.book.specs.Book.{Book, row, undoubted_place}
use Rattle.book.specs.Calls.{BookAnswer, Follows, SearchGives, barred, listed, listing_of, none_near, one_near, refused, settle, settles, solve, solves, search_fault}
use Rattle.book.specs.declared.call_fault.CallFault.TheVariants.{Code as of_code}
use Rattle.algebra.specs.NumericCode.{NumericCode}
use Rattle.book.specs.Codes.{IsLawful, IsNear}
use Rattle.book.specs.Mending.{Fits, IsOnlyPattern, changes, nonzero_count, row_less}
use Rattle.book.specs.declared.code_fault.CodeFault.TheVariants.{Unfit}
use Rattle.book.specs.declared.record.Record.{Record}
use Rattle.book.proofs.Fitting.{changes_fit, few_changes, fits_near}
use Rattle.book.proofs.OnlyPattern.{only_pattern}
use Rattle.correction.specs.Answers.{IsFound, IsNearPattern}
use Rattle.correction.specs.Proposals.{Proposes}
use Rattle.correction.specs.declared.pattern.Pattern.{Pattern}
use Rattle.correction.specs.MendingSteps.Found.{IsFinding, SearchFinds}

-- the number of ZERO, as the code works it out
pub zero_number : {S : Type 0} (N : Enumeration S) (F : FieldOn S) (z : S) (n : ℕ) → z ≡ F.𝟘 → n ≡ N.number z → N.number F.𝟘 ≡ n
zero_number N F z n is-z is-n = ap N.number (sym is-z) ∙ sym is-n

-- the row that a search gives is near
near_of : {C : NumericCode} {r w : ℕ} {b : Book} {a : BookAnswer} {found : Option (List ℕ)} {n : List ℕ} → SearchGives C r w b a found → found ≡ Some n → IsNear C b n
near_of (barred e) q = cc
near_of (none_near e none) q = cc
near_of {C} {b = b} (one_near {n = m} e x) q = let same : m ≡ _ = cc in subst (IsNear C b) same x

module _ (C : NumericCode) (r w : ℕ) (b : Book) where
  -- what follows where none of them applies
  pub record Able : Type 0 where
    pub short : length b ≤ C.limit
    pub room : C.bound ≤ r
    pub working : 12 * (C.bound + 2) ≤ w

  pub able : search_fault C r w b ≡ None → Able
  able q = record {
    short = grind (arith, nat_tests);
    room = grind (arith, nat_tests);
    working = grind (arith, nat_tests);
  }

  module _ (law : IsLawful C) (below : AllByRecursion (λ v. v < 32) (row b)) (none : search_fault C r w b ≡ None) where
    symbols : AllByRecursion (λ v. v < C.size) (row b)
    symbols = subst (λ (k : ℕ). AllByRecursion (λ v. v < k) (row b)) (sym law.alphabet) below

    pub found : (p : Pattern) → Proposes C b w (Some p) → Fits C b p → SearchFinds C r w b (Ok p)
    found p proposes fits =
        let n = row_less C p (row b) in
        let near : IsNear C b n = fits_near C b p fits in
        let can = able none in
        let same : Some p ≡ Some (changes C b n) = proposes n can.short can.working near in
        let listed : p ≡ changes C b n = cc in
        let few = few_changes C b n near in
        let long : ◌≡◌ {A = ℕ} (length p) (length (changes C b n)) = ap length listed in
        record {
          meant = n;
          workable = none;
          near = near;
          listed = listed;
          only = subst (IsOnlyPattern C b n) (sym listed) (only_pattern C law b symbols n can.short near);
          room = omega (arith, few, long, can.room);
        }

    unfit : (p : Pattern) → Proposes C b w (Some p) → ¬ Fits C b p → SearchGives C r w b (refused (of_code Unfit)) None
    unfit p proposes never = none_near none (λ n near.
        let can = able none in
        let same : Some p ≡ Some (changes C b n) = proposes n can.short can.working near in
        let listed : p ≡ changes C b n = cc in
        never (subst (Fits C b) (sym listed) (changes_fit C law b n symbols near)))

    none_found : Proposes C b w None → SearchGives C r w b (refused (of_code Unfit)) None
    none_found proposes = none_near none (λ n near.
        let can = able none in
        let same : None ≡ Some (changes C b n) = proposes n can.short can.working near in
        cc)

    -- a proposal that does not fit says that no row is near
    pub checked : (proposed kept : Option Pattern) (Answers : Pattern → Bool → Type 0) → ((p : Pattern) (t : Bool) → Answers p t → Decides t (Fits C b p))
        → Proposes C b w proposed → MatchOption proposed (kept ≡ None) (λ p. (t : Bool) × Answers p t × (kept ≡ then_some t p)) → SearchFinds C r w b (ok_or kept Unfit)
    checked None kept Answers decides proposes q = rw q (none_found proposes)
    checked (Some p) kept Answers decides proposes (t, a, q) = rw q (by t (decides p t a))
      where
        by : (t : Bool) → Decides t (Fits C b p) → SearchFinds C r w b (ok_or (then_some t p) Unfit)
        by true d = found p proposes (d.0 refl)
        by false d = unfit p proposes (not_from_Decides false d refl)

  -- what is found, n being as many of its records as change something
  pub is_found : (cs : List Record) (n : ℕ) (next : Book) (es : List Record) → IsFinding C r w b cs → n ≡ nonzero_count C cs → es ≡ cs
      → next ≡ map undoubted_place (row_less C es (row b)) → IsFound C r w b cs n next
  is_found cs n next es f changed same is-next =
      let as_listed : listed cs (length cs) n ≡ listing_of C b f.meant =
      let as-changed : n ≡ nonzero_count C (changes C b f.meant) = changed ∙ ap (nonzero_count C) f.listed in
      let is-listed : cs ≡ changes C b f.meant = f.listed in
      cc in
      record {
        meant = f.meant;
        gives = subst (λ a. SearchGives C r w b a (Some f.meant)) (sym as_listed) (one_near f.workable f.near);
        only = f.only;
        settled = is-next ∙ ap (λ fs. map undoubted_place (row_less C fs (row b))) same ∙ ap (map undoubted_place) f.only.subtracted;
        room = f.room;
      }

  pub room_for : (cs es : List Record) (n : ℕ) (next : Book) → IsFound C r w b cs n next → es ≡ cs → length es ≤ r
  room_for cs es n next f same = subst (λ (ls : List Record). length ls ≤ r) (sym same) f.room

  -- the records of an answer, at the front of a list
  module _ (cs es rs old : List Record) (i j : ℕ) (next : Book) (f : IsFound C r w b cs j next) (same : es ≡ cs) (many : i ≡ length es) (front : rs ≡ es ++ drop (length es) old) where
    front_taken : take i rs ≡ cs
    front_taken = ap (take i) front ∙ take_at es (drop (length es) old) i (sym many) ∙ same

    pub patterned : IsNearPattern C b (take i rs)
    patterned = record { meant = f.meant; near = near_of f.gives refl; only = subst (IsOnlyPattern C b f.meant) (sym front_taken) f.only }

    answer : listed (take i rs) i j ≡ listed cs (length cs) j
    answer = ap₂ (λ (ls : List Record) (k : ℕ). listed ls k j) front_taken (many ∙ ap length same)

    pub solved : Follows b (solve C r w) (listed (take i rs) i j) b
    solved = subst (λ a. Follows b (solve C r w) a b) (sym answer) (solves f.gives)

    pub settled_by : Follows b (settle C r w) (listed (take i rs) i j) next
    settled_by =
        subst (λ d. Follows b (settle C r w) (listed (take i rs) i j) d) (sym f.settled)
        (subst (λ a. Follows b (settle C r w) a (map undoubted_place f.meant)) (sym answer) (settles f.gives))
