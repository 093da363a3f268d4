-- One step more of a script, in the story of each slip.
--   stories_put, stories_past      the step is answered on its slip, or names none
--   stories_all, stories_fresh     where steps or replies are used up, and from fresh slips
--   untouched_put, untouched_past  the replies that are as they were
use Rattle.std.specs.List.{AllByRecursion}
use Rattle.std.proofs.Common.{◌≡◌, ℕ, zero, suc, ◌+◌, ◌<◌, ◌≤◌, min, Bool, true, false, cond, eqb, List, [], ◌∷◌, ◌++◌, length, get_or, take, set, sym, refl, ap, ◌∙◌, subst, ap₂, append-nil, arith}
use Rattle.std.proofs.lemmas.List.{take_more, length-take-le, get_or-set_same, get_or-set_other}
use Rattle.std.proofs.lemmas.Bool.{eqb-true, eqb-false, ne_eqb}
use Rattle.book.specs.Book.{Book, fresh_book}
use Rattle.book.specs.Calls.{BookCall, BookAnswer, Follows}
use Rattle.algebra.specs.NumericCode.{NumericCode}
use Rattle.book.specs.Story.{Leads}
use Rattle.script.specs.Script.{book_call, book_answer, calls_on, LeadsEachSlip, LeadsEachFreshSlip, Reply, IsUncalled, LeavesReplies}
use Rattle.script.specs.declared.script.Step.{Step}

-- a call more
leads_more : (b : Book) (ss : List (BookCall × BookAnswer)) (d e : Book) (c : BookCall) (a : BookAnswer) → Leads b ss d → Follows d c a e → Leads b (ss ++ (c, a) ∷ []) e
leads_more b [] d e c a l f = (e, subst (λ x. Follows x c a e) l f, refl)
leads_more b (s ∷ ss) d e c a l f = (l.0, l.1, leads_more l.0 ss d e c a l.2 f)

-- the calls on slip i after a step more
module _ {K : Type 0} (codes : K → NumericCode) (i : ℕ) where
  calls_put : (ts : List (Step K)) (t : Step K) (rs : List Reply) (r : Reply) → length ts < length rs
      → calls_on codes i (ts ++ t ∷ []) (set rs (length ts) r) ≡ calls_on codes i ts rs ++ cond (eqb t.slip i) ((book_call codes t.call, book_answer r) ∷ []) []
  calls_put ts t [] r h = absurd (omega arith)
  calls_put [] t (x ∷ rs) r h = refl
  calls_put (u ∷ ts) t (x ∷ rs) r h = by (eqb u.slip i) (calls_on codes i ts rs) (cond (eqb t.slip i) ((book_call codes t.call, book_answer r) ∷ []) []) (calls_put ts t rs r (omega arith))
    where
      by : (e : Bool) {new : List (BookCall × BookAnswer)} (old last : List (BookCall × BookAnswer)) → new ≡ old ++ last → cond e ((book_call codes u.call, book_answer x) ∷ new) new ≡ cond e ((book_call codes u.call, book_answer x) ∷ old) old ++ last
      by true old last q = ap (λ z. (book_call codes u.call, book_answer x) ∷ z) q
      by false old last q = q

  calls_past : (ts : List (Step K)) (t : Step K) (rs : List Reply) → eqb t.slip i ≡ false → calls_on codes i (ts ++ t ∷ []) rs ≡ calls_on codes i ts rs
  calls_past [] t [] e = refl
  calls_past [] t (x ∷ rs) e = simp e
  calls_past (u ∷ ts) t [] e = refl
  calls_past (u ∷ ts) t (x ∷ rs) e = ap (λ z. cond (eqb u.slip i) ((book_call codes u.call, book_answer x) ∷ z) z) (calls_past ts t rs e)

  calls_all : (ts : List (Step K)) (rs : List Reply) (n : ℕ) → min (length ts) (length rs) ≤ n → calls_on codes i (take n ts) rs ≡ calls_on codes i ts rs
  calls_all [] rs zero h = refl
  calls_all [] rs (suc n) h = refl
  calls_all (t ∷ ts) [] zero h = refl
  calls_all (t ∷ ts) [] (suc n) h = refl
  calls_all (t ∷ ts) (x ∷ rs) zero h = absurd (omega arith)
  calls_all (t ∷ ts) (x ∷ rs) (suc n) h = ap (λ z. cond (eqb t.slip i) ((book_call codes t.call, book_answer x) ∷ z) z) (calls_all ts rs n (omega arith))

module _ {K : Type 0} (ts : List (Step K)) (k : ℕ) (t : Step K) (h : k < length ts) (is : t ≡ get_or ts k t) where
  one_turn_more : take (k + 1) ts ≡ take k ts ++ t ∷ []
  one_turn_more = take_more ts k t h ∙ ap (λ x. take k ts ++ x ∷ []) (sym is)

  turns_before : length (take k ts) ≡ k
  turns_before = length-take-le k ts (omega arith)

  module _ (codes : K → NumericCode) (before : List Book) (rs : List Reply) (books : List Book) (so_far : LeadsEachSlip codes before (take k ts) rs books) where
    -- the turn's call is answered, on its slip
    pub stories_put : (r : Reply) (e : Book) → k < length rs → t.slip < length books
        → Follows (get_or books t.slip fresh_book) (book_call codes t.call) (book_answer r) e → LeadsEachSlip codes before (take (k + 1) ts) (set rs k r) (set books t.slip e)
    stories_put r e room there f i l = by (eqb t.slip i) refl
      where
        calls : (z : Bool) → eqb t.slip i ≡ z → calls_on codes i (take (k + 1) ts) (set rs k r) ≡ calls_on codes i (take k ts) rs ++ cond z ((book_call codes t.call, book_answer r) ∷ []) []
        calls z q = ap₂ (λ us n. calls_on codes i us (set rs n r)) one_turn_more (sym turns_before)
            ∙ (calls_put codes i (take k ts) t rs r (omega (arith, turns_before)) ∙ ap (λ v. calls_on codes i (take k ts) rs ++ cond v ((book_call codes t.call, book_answer r) ∷ []) []) q)

        by : (z : Bool) → eqb t.slip i ≡ z → Leads (get_or before i fresh_book) (calls_on codes i (take (k + 1) ts) (set rs k r)) (get_or (set books t.slip e) i fresh_book)
        by true q =
            let s = eqb-true t.slip i q in
            rw (calls true q, ← s, get_or-set_same books t.slip e fresh_book there)
            (leads_more (get_or before t.slip fresh_book) (calls_on codes t.slip (take k ts) rs) (get_or books t.slip fresh_book) e (book_call codes t.call) (book_answer r) (so_far t.slip (omega arith)) f)
        by false q =
            let s : i ≡ t.slip → ⊥ = λ p. eqb-false t.slip i q (sym p) in
            rw (calls false q, append-nil (calls_on codes i (take k ts) rs), get_or-set_other books t.slip i e fresh_book s) (so_far i l)

    -- the step names no slip
    pub stories_past : length before ≤ t.slip → LeadsEachSlip codes before (take (k + 1) ts) rs books
    stories_past out i l =
        let q = calls_past codes i (take k ts) t rs (ne_eqb t.slip i (λ e. omega arith)) in
        rw (one_turn_more, q) (so_far i l)

-- nothing was asked, of fewer steps
unasked_front : {K : Type 0} (m : ℕ) (ts : List (Step K)) (t : Step K) (j : ℕ) → IsUncalled m (ts ++ t ∷ []) j → IsUncalled m ts j
unasked_front m [] t j u = tt
unasked_front m (x ∷ ts) t zero u = u
unasked_front m (x ∷ ts) t (suc j) u = unasked_front m ts t j u

unasked_last : {K : Type 0} (m : ℕ) (ts : List (Step K)) (t : Step K) → IsUncalled m (ts ++ t ∷ []) (length ts) → m ≤ t.slip
unasked_last m [] t u = u
unasked_last m (x ∷ ts) t u = unasked_last m ts t u

pub unasked_take : {K : Type 0} (m : ℕ) (ts : List (Step K)) (n j : ℕ) → IsUncalled m ts j → IsUncalled m (take n ts) j
unasked_take m ts zero j u = tt
unasked_take m [] (suc n) j u = tt
unasked_take m (x ∷ ts) (suc n) zero u = u
unasked_take m (x ∷ ts) (suc n) (suc j) u = unasked_take m ts n j u

module _ {K : Type 0} (ts : List (Step K)) (k : ℕ) (t : Step K) (h : k < length ts) (is : t ≡ get_or ts k t) (m : ℕ) (was rs : List Reply) (so_far : LeavesReplies m (take k ts) was rs) where
  pub untouched_past : LeavesReplies m (take (k + 1) ts) was rs
  untouched_past j d u = so_far j d (unasked_front m (take k ts) t j (subst (λ us. IsUncalled m us j) (one_turn_more ts k t h is) u))

  pub untouched_put : (r : Reply) → t.slip < m → LeavesReplies m (take (k + 1) ts) was (set rs k r)
  untouched_put r there j d u =
      get_or-set_other rs k j r d (λ e. omega (arith, unasked_last m (take k ts) t (here e))) ∙ untouched_past j d u
    where
      here : j ≡ k → IsUncalled m (take k ts ++ t ∷ []) (length (take k ts))
      here e = subst (λ x. IsUncalled m (take k ts ++ t ∷ []) x) (e ∙ sym (turns_before ts k t h is)) (subst (λ us. IsUncalled m us j) (one_turn_more ts k t h is) u)

-- steps past the last reply are not made
pub stories_all : {K : Type 0} (codes : K → NumericCode) (before after : List Book) (ts : List (Step K)) (rs : List Reply) (n : ℕ) → min (length ts) (length rs) ≤ n
    → LeadsEachSlip codes before (take n ts) rs after → LeadsEachSlip codes before ts rs after
stories_all codes before after ts rs n h s i l = rw (← (calls_all codes i ts rs n h)) (s i l)

-- each of some books that are fresh
fresh_at : (books : List Book) → AllByRecursion (λ b. b ≡ fresh_book) books → (i : ℕ) → get_or books i fresh_book ≡ fresh_book
fresh_at [] h i = refl
fresh_at (b ∷ books) h zero = h.0
fresh_at (b ∷ books) h (suc i) = fresh_at books h.1 i

pub stories_fresh : {K : Type 0} (codes : K → NumericCode) (before after : List Book) (ts : List (Step K)) (rs : List Reply) → LeadsEachSlip codes before ts rs after → LeadsEachFreshSlip codes before ts rs after
stories_fresh codes before after ts rs s all-fresh i l = subst (λ (b : Book). Leads b (calls_on codes i ts rs) (get_or after i fresh_book)) (fresh_at before all-fresh i) (s i l)
