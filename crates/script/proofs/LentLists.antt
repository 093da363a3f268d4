-- A search that is lent 216 elements to work in answers as one that is lent more.
--   found_on_workspace    a search at the front of a workspace
--   left_list, left_clear   what it leaves there
use Rattle.std.proofs.Common.{◌≡◌, ℕ, zero, suc, ◌+◌, ◌*◌, ◌≤◌, true, min, ltb, List, ◌∷◌, ◌++◌, length, take, drop, replicate, Ok, Err, Option, Result, sym, refl, ap, ◌∙◌, ⊎_elim, arith}
use Rattle.std.proofs.lemmas.List.{length-take, take-append-drop}
use Rattle.std.proofs.lemmas.Bool.{lt-ltb, le-ltb, cases_lt}
use Rattle.algebra.specs.Field.{FieldOn}
use Rattle.book.specs.Book.{Book}
use Rattle.book.specs.Calls.{BookAnswer, SearchGives, search_fault, barred, none_near, one_near}
use Rattle.algebra.specs.NumericCode.{NumericCode}
use Rattle.book.specs.declared.code_fault.CodeFault.{CodeFault}
use Rattle.book.specs.declared.code_fault.CodeFault.TheVariants.{Short, Long, Records, Working, Doubts, Unfit}
use Rattle.correction.specs.Answers.{FindsNear, workspace_after}
use Rattle.lists.specs.Faults.{zeros_if}
use Rattle.correction.specs.declared.found.Found.{Found}
use Rattle.script.specs.Script.{workspace_left}

-- what is asked is at most the cap: lending the cap is lending enough, or too little, alike
enough : (lent most asked cap : ℕ) → asked ≤ cap → most ≡ min lent cap → ltb lent asked ≡ ltb most asked
enough lent most asked cap h e =
    ⊎_elim (λ k. lt-ltb lent asked k ∙ sym (lt-ltb most asked (omega arith))) (λ k. le-ltb lent asked k ∙ sym (le-ltb most asked (omega arith))) (cases_lt lent asked)

module _ (C : NumericCode) (b : Book) (r w v : ℕ) (q : ltb w (12 * (C.bound + 2)) ≡ ltb v (12 * (C.bound + 2))) where
  same_tests : search_fault C r w b ≡ search_fault C r v b
  same_tests = simp q

  mends_lent : {a : BookAnswer} {found : Option (List ℕ)} → SearchGives C r v b a found → SearchGives C r w b a found
  mends_lent (barred e) = barred (same_tests ∙ e)
  mends_lent (none_near e none) = none_near (same_tests ∙ e) none
  mends_lent (one_near e x) = one_near (same_tests ∙ e) x

  found_lent : (found : Result Found CodeFault) → FindsNear C r v b found → FindsNear C r w b found
  found_lent (Ok found) f = record { meant = f.meant; gives = mends_lent f.gives; only = f.only; settled = f.settled; room = f.room }
  found_lent (Err fault) f = mends_lent f

module _ (C : NumericCode) (small : C.bound ≤ 16) (b : Book) (r w n : ℕ) {E : Type 0} (work : List E) (found : Result Found CodeFault) (q : n ≡ min w 216) (size : length work ≡ 216) where
  pub found_on_workspace : FindsNear C r (length (take n work)) b found → FindsNear C r w b found
  found_on_workspace = found_lent C b r w _ (enough w _ (12 * (C.bound + 2)) 216 (omega arith) (length-take n work ∙ omega arith)) found

abbrev zeros : {E : Type 0} → FieldOn E → List E → List E
zeros F list = zeros_if F true list

module _ {E : Type 0} (F : FieldOn E) (n : ℕ) where
  -- the list after a search at its front
  pub left_list : {X : Type 0} (r : Result X CodeFault) (work after : List E) → after ≡ workspace_after F r (take n work)
      → after ++ drop n work ≡ workspace_left (λ (l : List E). zeros F (take n l) ++ drop n l) r work
  left_list (Ok x) work after e = ap (λ l. l ++ drop n work) e
  left_list (Err Short) work after e = ap (λ l. l ++ drop n work) e ∙ take-append-drop n work
  left_list (Err Long) work after e = ap (λ l. l ++ drop n work) e ∙ take-append-drop n work
  left_list (Err Records) work after e = ap (λ l. l ++ drop n work) e ∙ take-append-drop n work
  left_list (Err Working) work after e = ap (λ l. l ++ drop n work) e ∙ take-append-drop n work
  left_list (Err Doubts) work after e = ap (λ l. l ++ drop n work) e ∙ take-append-drop n work
  left_list (Err Unfit) work after e = ap (λ l. l ++ drop n work) e

module _ {E : Type 0} (F : FieldOn E) where
  zeros_front : (n k : ℕ) → zeros F (take n (replicate k F.𝟘)) ++ drop n (replicate k F.𝟘) ≡ replicate k F.𝟘
  zeros_front zero k = refl
  zeros_front (suc n) zero = refl
  zeros_front (suc n) (suc k) = ap (λ l. F.𝟘 ∷ l) (zeros_front n k)

  -- a list of ZEROs stays one
  pub left_clear : (n k : ℕ) (work : List E) → work ≡ replicate k F.𝟘 → zeros F (take n work) ++ drop n work ≡ replicate k F.𝟘
  left_clear n k work e = ap (λ l. zeros F (take n l) ++ drop n l) e ∙ zeros_front n k
