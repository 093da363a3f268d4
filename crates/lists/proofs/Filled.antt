-- Lists that a loop fills from the front, and what a call that fills one answers.
use Rattle.std.proofs.Common.{◌≡◌, ℕ, zero, suc, ◌+◌, ◌-◌, ◌<◌, ◌≤◌, cond, eqb, ltb, List, [], ◌∷◌, ◌++◌, length, get_or, drop, set, replicate, IsErrAnd, Ok, Err, Result, sym, refl, ap, ◌∙◌, ap₂, subst, append_assoc, append-nil, add-one, arith}
use Rattle.std.proofs.lemmas.List.{get_or-append_right, get_or-drop, length-set, set_at, drop_more, drop_all}
use Rattle.std.proofs.lemmas.Bool.{ne_eqb, lt-ltb, le-ltb, cond-true, cond-false}
use Rattle.std.proofs.lemmas.Result.{err_from_is_err_and}
use Rattle.std.specs.List.{FoldsTo}
use Rattle.algebra.specs.Poly.{tab}
use Rattle.algebra.proofs.Tab.{length_tab}
use Rattle.lists.specs.Faults.{unless_empty, admit, lent_after, answer_count, answer_list}
use Rattle.lists.specs.declared.fault.ListFault.{ListFault}
use Rattle.lists.specs.declared.fault.ListFault.TheVariants.{Empty, Short}

module _ {A : Type 0} where
  pub tab_more : (n : ℕ) (f : ℕ → A) → tab (n + 1) f ≡ tab n f ++ (f n ∷ [])
  tab_more n f = ap (λ m. tab m f) (add-one n) ∙ go n f
    where
      go : (n : ℕ) (f : ℕ → A) → tab (suc n) f ≡ tab n f ++ (f n ∷ [])
      go zero f = refl
      go (suc n) f = ap (λ t. f zero ∷ t) (go n (λ i. f (suc i)))

-- w is e with the first j terms of f at its front: the invariant of a loop that fills a list
pub record Filled {A : Type 0} (f : ℕ → A) (j : ℕ) (e w : List A) : Type 0 where
  pub is : w ≡ tab j f ++ drop j e
  pub same : length w ≡ length e

module _ {A : Type 0} (f : ℕ → A) (e : List A) where
  pub filled_none : Filled f 0 e e
  filled_none = record { is = refl; same = refl }

  module _ (j : ℕ) (w : List A) (filled : Filled f j e w) where
    pub filled_more : (x : A) → j < length e → x ≡ f j → Filled f (j + 1) e (set w j x)
    filled_more x h v = record {
      is =
          ap (λ u. set u j x) (filled.is ∙ ap (λ t. tab j f ++ t) (drop_more e j x h))
          ∙ set_at (tab j f) (get_or e j x) (drop (j + 1) e) x j (length_tab j f)
          ∙ ap (λ y. tab j f ++ (y ∷ drop (j + 1) e)) v
          ∙ sym (append_assoc (tab j f) (f j ∷ []) (drop (j + 1) e))
          ∙ ap (λ t. t ++ drop (j + 1) e) (sym (tab_more j f));
      same = length-set w j x ∙ filled.same;
    }

    -- the entries yet to be written are as they were
    pub filled_read : (l : ℕ) (d : A) → j ≤ l → get_or w l d ≡ get_or e l d
    filled_read l d h =
        let z : j + (l - j) ≡ l = omega arith in
        ap (λ u. get_or u l d) filled.is ∙ get_or-append_right (tab j f) (drop j e) j l d (length_tab j f) h
        ∙ get_or-drop j e (l - j) d ∙ ap (λ i. get_or e i d) z

-- a call that writes the list `new` at the front of `old`, its lengths as the code has them
module _ {A : Type 0} (given : ℕ) (new old : List A) (r : Result ℕ ListFault) (m n : ℕ) (is : r ≡ admit m n (length old)) (given_is : m ≡ given) (size : n ≡ length new) where
  count_is : r ≡ answer_count given new old
  count_is = is ∙ ap₂ (λ k l. admit k l (length old)) given_is size

  -- the exit of a `?`
  module _ (e : ListFault) (was : r ≡ Err e) where
    pub refuses : (res : Result ℕ ListFault) → IsErrAnd res (λ y. y ≡ e) → res ≡ answer_count given new old
    refuses res by = let p = err_from_is_err_and res by in p.1 ∙ ap Err p.2 ∙ sym was ∙ count_is

    pub refuses_list : old ≡ answer_list given new old
    refuses_list = ap (λ t. lent_after t new old) (sym was ∙ count_is)

  pub accepts : (j : ℕ) → r ≡ Ok j → Ok j ≡ answer_count given new old
  accepts j was = sym was ∙ count_is

  pub accepts_list : (j : ℕ) (w : List A) → r ≡ Ok j → w ≡ new ++ drop j old → w ≡ answer_list given new old
  accepts_list j w was e = e ∙ ap (λ t. lent_after t new old) (accepts j was)

-- a list that is filled is the list that its terms are
pub filled_all : {A : Type 0} (f : ℕ → A) (j n : ℕ) (new old w : List A) → j ≡ n → tab n f ≡ new → Filled f j old w → w ≡ new ++ drop n old
filled_all f j n new old w e same filled = filled.is ∙ ap (λ k. tab k f ++ drop k old) e ∙ ap (λ t. t ++ drop n old) same

-- a list filled to its end is the list that its terms are
pub filled_whole : {A : Type 0} (f : ℕ → A) (j n : ℕ) (e w : List A) → j ≡ n → length e ≡ n → Filled f j e w → w ≡ tab n f
filled_whole f j n e w all size filled =
    filled_all f j n (tab n f) e w all refl filled
    ∙ ap (λ t. tab n f ++ t) (drop_all n e (omega arith)) ∙ append-nil (tab n f)

-- a list that a closure fills which answers one entry each time
pub filled_with : {F A : Type 0} (step : F → A → F → Type 0) (f : F) (x : A) → ((y : A) (f' : F) → step f y f' → (y ≡ x) × (f' ≡ f)) → (w : List A) (last : F) → FoldsTo step f w last → w ≡ replicate (length w) x
filled_with step f x each [] last ran = refl
filled_with step f x each (y ∷ w) last ran =
    let once = each y ran.0 ran.1 in
    ap₂ ◌∷◌ once.0 (filled_with step f x each w last (subst (λ h. FoldsTo step h w last) once.1 ran.2))

pub asked_some : {X : Type 0} (given : ℕ) (x : X) → 0 < given → Ok x ≡ unless_empty given x
asked_some given x h = sym (cond-false (eqb given 0) (Err Empty) (Ok x) (ne_eqb given 0 (λ e. omega arith)))

-- a call that is given lists, by the room for its answer
module _ {A : Type 0} (given : ℕ) (new old : List A) (some : 0 < given) where
  admitted_some : admit given (length new) (length old) ≡ cond (ltb (length old) (length new)) (Err Short) (Ok (length new))
  admitted_some = cond-false (eqb given 0) (Err Empty) (cond (ltb (length old) (length new)) (Err Short) (Ok (length new))) (ne_eqb given 0 (λ e. omega arith))

  pub count_short : length old < length new → Err Short ≡ answer_count given new old
  count_short h = sym (admitted_some ∙ cond-true (ltb (length old) (length new)) (Err Short) (Ok (length new)) (lt-ltb (length old) (length new) h))

  pub written_short : length old < length new → old ≡ answer_list given new old
  written_short h = ap (λ t. lent_after t new old) (count_short h)

  module _ (room : length new ≤ length old) (n : ℕ) (size : n ≡ length new) where
    pub count_room : Ok n ≡ answer_count given new old
    count_room = ap Ok size ∙ sym (admitted_some ∙ cond-false (ltb (length old) (length new)) (Err Short) (Ok (length new)) (le-ltb (length old) (length new) room))

    pub written_room : (w : List A) → w ≡ new ++ drop n old → w ≡ answer_list given new old
    written_room w e = e ∙ ap (λ t. lent_after t new old) count_room
