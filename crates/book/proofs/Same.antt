-- A call on a book has one answer, and leaves one book.
--   within, workable   when a search is not barred
--   same               by a lawful code, two that follow a call are one
use Rattle.std.proofs.Common.{◌≡◌, ℕ, ◌+◌, ◌*◌, ◌≤◌, Bool, true, false, ltb, leb, List, [], ◌∷◌, ◌++◌, map, length, Some, None, Option, sym, refl, ap, arith}
use native.Mathlib.Decide.{ℕ_discrete}
use Rattle.std.proofs.lemmas.Bool.{le-ltb, lt-leb, ltb-false}
use Rattle.algebra.proofs.Near.{one_near_by}
use Rattle.book.specs.Book.{Book, undoubted_place, doubts}
use Rattle.book.specs.Calls.{BookCall, BookAnswer, Follows, SearchGives, listing_of, settled_book, first_fault, search_fault, write, blank, doubt, wipe, seal, solve, settle, barred, none_near, one_near, writes, blanks, doubting, wipes, unsealed, seals, solves, settles}
use Rattle.algebra.specs.NumericCode.{NumericCode}
use Rattle.book.specs.Codes.{IsLawful, IsNear, IsSound}
use Rattle.book.specs.Promise.{IsWorkable}
use Rattle.book.specs.declared.code_fault.CodeFault.{CodeFault}
use Rattle.book.specs.declared.code_fault.CodeFault.TheVariants.{Short, Long, Records, Working, Doubts}

-- a reason and none
clash : {X : Type 0} {o : Option X} {x : X} → o ≡ Some x → o ≡ None → ⊥
clash {o = o} p q = let z : ◌≡◌ {A = ℕ} 0 1 = cc in omega arith

-- with no reason, every test fails
abbrev Fail : List (Bool × CodeFault) → Type 0
Fail [] = Unit {0}
Fail (t ∷ ts) = (t.0 ≡ false) × Fail ts

fails : (ts : List (Bool × CodeFault)) → first_fault ts ≡ None → Fail ts
fails [] e = tt
fails ((true, fault) ∷ ts) e = absurd (clash refl e)
fails ((false, fault) ∷ ts) e = (refl, fails ts e)

module _ (C : NumericCode) (r w : ℕ) (b : Book) where
  -- a row that is searched is within the limit
  pub within : search_fault C r w b ≡ None → length b ≤ C.limit
  within e =
      let tests : List (Bool × CodeFault) =
      (leb (length b) C.checks, Short) ∷ (ltb C.limit (length b), Long) ∷ (ltb r C.bound, Records)
      ∷ (ltb w (12 * (C.bound + 2)), Working) ∷ (ltb C.bound (doubts b), Doubts) ∷ [] in
      ltb-false C.limit (length b) (fails tests e).1.0

  -- nothing bars a search that can be worked
  pub workable : IsWorkable C r w b → doubts b ≤ C.bound → search_fault C r w b ≡ None
  workable f d =
      simp (
        lt-leb (length b) C.checks f.long,
        le-ltb C.limit (length b) f.short,
        le-ltb r C.bound f.records,
        le-ltb w (12 * (C.bound + 2)) f.working,
        le-ltb C.bound (doubts b) d,
      )

-- within the limit no second row is near
pub one_near_row : (C : NumericCode) → IsLawful C → (b : Book) (n m : List ℕ) → length b ≤ C.limit → IsNear C b n → IsNear C b m → n ≡ m
one_near_row C law b n m short hn hm = sym (one_near_by ℕ_discrete (IsSound C) C.bound C.limit law.apart b n m short hn hm)

-- a search has one answer, and gives one row
pub same_mends : {C : NumericCode} {r w : ℕ} {b : Book} {a a' : BookAnswer} {found found' : Option (List ℕ)} → IsLawful C
    → SearchGives C r w b a found → SearchGives C r w b a' found' → (a ≡ a') × (found ≡ found')
same_mends law (barred e) (barred f) = (cc, refl)
same_mends law (barred e) (none_near f _) = absurd (clash e f)
same_mends law (barred e) (one_near f _) = absurd (clash e f)
same_mends law (none_near e _) (barred f) = absurd (clash f e)
same_mends law (none_near e _) (none_near f _) = (refl, refl)
same_mends law (none_near e none) (one_near f x) = absurd (none _ x)
same_mends law (one_near e x) (barred f) = absurd (clash f e)
same_mends law (one_near e x) (none_near f none) = absurd (none _ x)
same_mends {C} {r} {w} {b} law (one_near {n = n} e x) (one_near {n = m} f y) =
    let one = one_near_row C law b n m (within C r w b e) x y in
    (ap (listing_of C b) one, ap (λ (v : List ℕ). Some v) one)

-- the code that a call names is lawful
abbrev pub Named : BookCall → Type 0
Named (write v) = Unit {0}
Named blank = Unit {0}
Named (doubt p) = Unit {0}
Named wipe = Unit {0}
Named (seal C) = IsLawful C
Named (solve C r w) = IsLawful C
Named (settle C r w) = IsLawful C

pub same : {b : Book} {c : BookCall} {a a' : BookAnswer} {d d' : Book} → Named c → Follows b c a d → Follows b c a' d' → (a ≡ a') × (d ≡ d')
same law writes writes = (refl, refl)
same law blanks blanks = (refl, refl)
same law doubting doubting = (refl, refl)
same law wipes wipes = (refl, refl)
same law (unsealed e) (unsealed f) = (cc, refl)
same law (unsealed e) (seals f _) = absurd (clash e f)
same law (seals e _) (unsealed f) = absurd (clash f e)
same {b} law (seals e s) (seals f t) = (refl, ap (λ (cs : List ℕ). b ++ map undoubted_place cs) (law.one_seal _ _ _ s t))
same law (solves m) (solves k) = ((same_mends law m k).0, refl)
same {b} law (settles m) (settles k) = ((same_mends law m k).0, ap (settled_book b) (same_mends law m k).1)
