-- A search for roots, index by index.
use Rattle.std.proofs.Common.{◌≡◌, ℕ, suc, ◌+◌, ◌-◌, ◌<◌, ◌≤◌, true, false, not, List, ◌∷◌, Some, cond, refl, sym, ap, ◌∙◌, arith, add-one}
use Rattle.std.specs.List.{find, range_with_len}
use Rattle.algebra.specs.Field.{FieldOn, pow}
use Rattle.algebra.specs.Poly.{eval}
use Rattle.algebra.proofs.Decided.{is_no}
use Rattle.lists.specs.Roots.{Cursor, is_root, next_root}

-- the numbers from i on, below n
range_next : (i n : ℕ) → i < n → range_with_len i (n - i) ≡ i ∷ range_with_len (i + 1) (n - (i + 1))
range_next i n h =
    let e : n - i ≡ suc (n - (i + 1)) = omega arith in
    ap (range_with_len i) e

module _ {A : Type 0} (F : FieldOn A) where
  -- a search through p, begun at the cursor c, has found no root below the index next
  pub record HasPassed (p : List A) (c : Cursor A) (base : A) (order next : ℕ) (power : A) : Type 0 where
    pub same_base : base ≡ c.base
    pub same_order : order ≡ c.order
    pub within : next ≤ order
    pub power_is : power ≡ pow F base next
    pub same_answer : next_root F p record { base = base; next = next; order = order } ≡ next_root F p c

  -- the test of an index
  root_found : {x : A} (d : Dec (x ≡ F.𝟘)) → x ≡ F.𝟘 → not (is_no d) ≡ true
  root_found (yes h) z = refl
  root_found (no n) z = absurd (n z)

  none_found : {x : A} (d : Dec (x ≡ F.𝟘)) → ¬ (x ≡ F.𝟘) → not (is_no d) ≡ false
  none_found (yes h) n = absurd (n h)
  none_found (no k) n = refl

  module _ (p : List A) (a : A) (n i : ℕ) (below : i < n) where
    first : next_root F p record { base = a; next = i; order = n } ≡ cond (is_root F p a i) (Some i) (next_root F p record { base = a; next = i + 1; order = n })
    first = ap (find (is_root F p a)) (range_next i n below)

    pub at_root : eval F p (pow F a i) ≡ F.𝟘 → next_root F p record { base = a; next = i; order = n } ≡ Some i
    at_root z =
        first
        ∙ ap (λ t. cond t (Some i) (next_root F p record { base = a; next = i + 1; order = n }))
        (root_found (F.dec_eq (eval F p (pow F a i)) F.𝟘) z)

    pub past_other : ¬ (eval F p (pow F a i) ≡ F.𝟘)
        → next_root F p record { base = a; next = i; order = n } ≡ next_root F p record { base = a; next = i + 1; order = n }
    past_other z =
        first
        ∙ ap (λ t. cond t (Some i) (next_root F p record { base = a; next = i + 1; order = n }))
        (none_found (F.dec_eq (eval F p (pow F a i)) F.𝟘) z)

  -- the next index is tried, whose power is x
  module _ {p : List A} {c : Cursor A} {a x r : A} {n i : ℕ} (passed : HasPassed p c a n i x) (below : i < n) (is : r ≡ eval F p x) where
    value : r ≡ eval F p (pow F a i)
    value = is ∙ ap (eval F p) passed.power_is

    pub found : r ≡ F.𝟘 → Some i ≡ next_root F p c
    found z = sym (at_root p a n i below (sym value ∙ z)) ∙ passed.same_answer

    pub passed_more : (y : A) → y ≡ F.mul a x → ¬ (r ≡ F.𝟘) → HasPassed p c a n (i + 1) y
    passed_more y next z = record {
      same_base = passed.same_base;
      same_order = passed.same_order;
      within = omega arith;
      power_is = next ∙ ap (F.mul a) passed.power_is ∙ ap (pow F a) (sym (add-one i));
      same_answer = sym (past_other p a n i below (λ e. z (value ∙ e))) ∙ passed.same_answer;
    }
