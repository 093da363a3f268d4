-- A search for roots: where it starts, and its next index.
use Rattle.std.proofs.Common.{◌≡◌, ℕ, zero, suc, ◌+◌, ◌-◌, ◌<◌, Bool, true, false, cond, List, [], ◌∷◌, map, length, Some, Ok, Option, Result, sym, refl, ap, ◌∙◌, ap₂, subst, arith}
use native.Mathlib.Decide.{dec_lt}
use Rattle.std.proofs.lemmas.Option.{none-some, same_Some}
use Rattle.std.specs.List.{filter, find, range_with_len}
use Rattle.algebra.specs.Decode.{root_position}
use Rattle.algebra.specs.Field.{FieldOn, HasOrder}
use Rattle.book.specs.declared.record.Record.{Record}
use Rattle.lists.specs.Faults.{unless_empty}
use Rattle.lists.specs.declared.fault.ListFault.{ListFault}
use Rattle.lists.proofs.Filled.{asked_some}
use Rattle.lists.specs.Roots.{Cursor, cursor_after, is_root, next_root, roots}
use Rattle.correction.specs.Steps.Listing.{Lists}
use Rattle.correction.proofs.Onward.{Onward}

module _ {A : Type 0} (F : FieldOn A) (a : A) where
  same_order : (m n : ℕ) → HasOrder F a m → HasOrder F a n → m ≡ n
  same_order m n h k = by (dec_lt m n) (dec_lt n m)
    where
      by : Dec (m < n) → Dec (n < m) → m ≡ n
      by (yes l) d = absurd (k.least m h.positive l h.returns)
      by (no l) (yes d) = absurd (h.least n k.positive d k.returns)
      by (no l) (no d) = omega arith

  -- an element has one order, so that what is listed by one is listed by any
  pub for_order : (p : List A) (len : ℕ) {Change : ℕ → ℕ → Type 0} {before after : List Record} {r : Option (Unit {0})} {m : ℕ} → HasOrder F a m
      → Lists Change len (map (root_position m) (roots F p a m)) before r after → (n : ℕ) → HasOrder F a n
      → Lists Change len (map (root_position n) (roots F p a n)) before r after
  for_order p len {Change} {before} {after} {r} {m} h listed n k =
      subst (λ o. Lists Change len (map (root_position o) (roots F p a o)) before r after) (same_order m n h k) listed

-- what a search finds first, and what then remains
module _ (test : ℕ → Bool) where
  find_filter : (k i x : ℕ) → find test (range_with_len i k) ≡ Some x → filter test (range_with_len i k) ≡ x ∷ filter test (range_with_len (x + 1) (i + k - (x + 1)))
  find_filter zero i x e = absurd (none-some x e)
  find_filter (suc k) i x e = by (test i) (find_filter k (i + 1) x) e
    where
      by : (t : Bool)
          → (find test (range_with_len (i + 1) k) ≡ Some x → filter test (range_with_len (i + 1) k) ≡ x ∷ filter test (range_with_len (x + 1) (i + 1 + k - (x + 1))))
          → cond t (Some i) (find test (range_with_len (i + 1) k)) ≡ Some x
          → cond t (i ∷ filter test (range_with_len (i + 1) k)) (filter test (range_with_len (i + 1) k)) ≡ x ∷ filter test (range_with_len (x + 1) (i + suc k - (x + 1)))
      by true later q =
          let same : i ≡ x = same_Some i x q in
          let many : k ≡ i + suc k - (x + 1) = omega arith in
          ap₂ (λ j m. j ∷ filter test (range_with_len (j + 1) m)) same many
      by false later q =
          let many : i + 1 + k - (x + 1) ≡ i + suc k - (x + 1) = omega arith in
          later q ∙ ap (λ m. x ∷ filter test (range_with_len (x + 1) m)) many

  find_none : (js : List ℕ) → ((x : ℕ) → ¬ (find test js ≡ Some x)) → filter test js ≡ []
  find_none [] never = refl
  find_none (j ∷ js) never = by (test j) (find_none js) never
    where
      by : (t : Bool) → (((x : ℕ) → ¬ (find test js ≡ Some x)) → filter test js ≡ [])
          → ((x : ℕ) → ¬ (cond t (Some j) (find test js) ≡ Some x)) → cond t (j ∷ filter test js) (filter test js) ≡ []
      by true later n = absurd (n j refl)
      by false later n = later n

-- what a cursor that is passed the list p has yet to answer
abbrev pub remaining_roots : {A : Type 0} → FieldOn A → List A → Cursor A → List ℕ
remaining_roots F p c = filter (is_root F p c.base) (range_with_len c.next (c.order - c.next))

-- A cursor is passed a list that has entries.
module _ {A : Type 0} (F : FieldOn A) (p : List A) (some : 0 < length p) (c : Cursor A) where
  answered : {r : Result (Option ℕ) ListFault} {o : Option ℕ} → r ≡ unless_empty (length p) (next_root F p c) → r ≡ Ok o → o ≡ next_root F p c
  answered answer is = let given = asked_some (length p) (next_root F p c) some in cc

  remains : (x : ℕ) → next_root F p c ≡ Some x → remaining_roots F p c ≡ x ∷ remaining_roots F p (cursor_after c (Ok (Some x)))
  remains x e = by (c.order - c.next) refl e
    where
      by : (k : ℕ) → k ≡ c.order - c.next → find (is_root F p c.base) (range_with_len c.next k) ≡ Some x
          → filter (is_root F p c.base) (range_with_len c.next k) ≡ x ∷ filter (is_root F p c.base) (range_with_len (x + 1) (c.order - (x + 1)))
      by zero h q = absurd (none-some x q)
      by (suc k) h q =
          let many : c.next + suc k - (x + 1) ≡ c.order - (x + 1) = omega arith in
          find_filter (is_root F p c.base) (suc k) c.next x q ∙ ap (λ m. x ∷ filter (is_root F p c.base) (range_with_len (x + 1) m)) many

  -- it answers an index, and has become another
  pub next_index : (c' : Cursor A) {r : Result (Option ℕ) ListFault} {o : Option ℕ} {x : ℕ} → r ≡ unless_empty (length p) (next_root F p c) → c' ≡ cursor_after c r → r ≡ Ok o → o ≡ Some x
      → remaining_roots F p c ≡ x ∷ remaining_roots F p c'
  next_index c' {r} {o} {x} answer after is found =
      remains x (sym (answered answer is) ∙ found)
      ∙ ap (λ d. x ∷ remaining_roots F p d) (ap (cursor_after c) (sym (is ∙ ap Ok found)) ∙ sym after)

  pub no_index : {r : Result (Option ℕ) ListFault} {o : Option ℕ} → r ≡ unless_empty (length p) (next_root F p c) → r ≡ Ok o → ((x : ℕ) → ¬ (o ≡ Some x)) → remaining_roots F p c ≡ []
  no_index answer is never = find_none (is_root F p c.base) (range_with_len c.next (c.order - c.next)) (λ x e. never x (answered answer is ∙ e))

-- Indices js are left, the first of which stands for p.
module _ {Change : ℕ → ℕ → Type 0} (n : ℕ) {all : List ℕ} {before hs : List Record} (order : ℕ) {js : List ℕ} (o : Onward Change n all before (map (root_position order) js) hs) where
  pub first_position : {x p : ℕ} {rest : List ℕ} → js ≡ x ∷ rest → p ≡ root_position order x → Onward Change n all before (p ∷ map (root_position order) rest) hs
  first_position {x} {p} {rest} e is =
      subst (λ ps. Onward Change n all before ps hs) (ap (map (root_position order)) e ∙ ap (λ q. q ∷ map (root_position order) rest) (sym is)) o

  pub none_left : js ≡ [] → Onward Change n all before [] hs
  none_left e = subst (λ ps. Onward Change n all before ps hs) (ap (map (root_position order)) e) o
