-- What is ahead of a cursor after a step, a skip or its start.
use Rattle.std.proofs.Common.{◌≡◌, ℕ, zero, suc, ◌+◌, ◌-◌, ◌≤◌, List, [], ◌∷◌, drop, Some, None, Option, sym, refl, ap, ◌∙◌, ap₂, suc-add, zero-add, arith, drop-drop}
use native.Mathlib.Nat.{sub-zero, zero-sub, suc-sub-suc}
use lib.Seq.{drop-nil}
use Rattle.std.specs.List.{slice_get}
use Rattle.std.specs.Iterator.{YieldsFirst}
use Rattle.std.specs.Option.{SomeIff, MatchOption}
use Rattle.algebra.specs.Field.{FieldOn, pow}
use Rattle.algebra.proofs.Powers.{pow_add}
use Rattle.algebra.proofs.Tab.{tab_same}
use Rattle.fields.specs.declared.cursor.Powers.{Powers}
use Rattle.fields.specs.declared.cursor.PowersRange.{PowersRange}
use Rattle.algebra.specs.Poly.{tab}
use Rattle.fields.specs.Cursors.{left_count, power_ahead, remaining_powers}

tab_drop : {A : Type 0} (m n : ℕ) (f : ℕ → A) → tab (m - n) (λ k. f (n + k)) ≡ drop n (tab m f)
tab_drop m zero f = ap (λ j. tab j (λ k. f (0 + k))) (sub-zero m) ∙ tab_same m (λ k. f (0 + k)) f (λ k _. ap f (zero-add k))
tab_drop zero (suc n) f = ap (λ j. tab j (λ k. f (suc n + k))) (zero-sub (suc n))
tab_drop (suc m) (suc n) f =
    ap (λ j. tab j (λ k. f (suc n + k))) (suc-sub-suc m n) ∙ tab_same (m - n) (λ k. f (suc n + k)) (λ k. f (suc (n + k))) (λ k _. ap f (suc-add n k))
    ∙ tab_drop m n (λ k. f (suc k))

nth_drop : {A : Type 0} (xs : List A) (n : ℕ) → slice_get (drop n xs) 0 ≡ slice_get xs n
nth_drop [] n = ap (λ ys. slice_get ys 0) (drop-nil n)
nth_drop (x ∷ xs) zero = refl
nth_drop (x ∷ xs) (suc n) = nth_drop xs n

-- what a step of an iterator answers and leaves
first : {A : Type 0} (o : Option A) (xs ys : List A) → MatchOption o ((xs ≡ []) × (ys ≡ [])) (λ x. xs ≡ x ∷ ys) → (o ≡ slice_get xs 0) × (ys ≡ drop 1 xs)
first None xs ys e = (ap (λ zs. slice_get zs 0) (sym e.0), e.1 ∙ ap (drop 1) (sym e.0))
first (Some x) xs ys e = (ap (λ zs. slice_get zs 0) (sym e), ap (drop 1) (sym e))

-- what is left of n, or of the exponents from a to b, by a checked difference
left_less : (o : Option ℕ) (n : ℕ) → SomeIff o (1 ≤ n) (n - 1) → left_count o ≡ n
left_less None n c = omega arith
left_less (Some m) n c = omega arith

left_skipped : (o : Option ℕ) (m n : ℕ) → SomeIff o (n ≤ m) (m - n) → left_count o ≡ suc m - n
left_skipped None m n c = omega arith
left_skipped (Some k) m n c = omega arith

left_range : (o : Option ℕ) (a b : ℕ) → SomeIff o (a ≤ b) (b - a) → left_count o ≡ b + 1 - a
left_range None a b c = omega arith
left_range (Some m) a b c = omega arith

module _ {A : Type 0} (F : FieldOn A) where
  pub ahead_skipped : (p : Powers A) (n : ℕ) (power s : A) → power ≡ pow F p.base n → s ≡ F.mul p.next power → (k : ℕ) → power_ahead F (record { base = p.base; next = s }) k ≡ power_ahead F p (n + k)
  ahead_skipped p n power s e product k =
      ap (λ y. F.mul y (pow F p.base k)) (product ∙ ap (F.mul p.next) e) ∙ F.mul_assoc p.next (pow F p.base n) (pow F p.base k)
      ∙ ap (F.mul p.next) (sym (pow_add F p.base n k))

  -- a skip from p to q, then a step
  pub answer_skipped : (p q : Powers A) (n : ℕ) → ((k : ℕ) → power_ahead F q k ≡ power_ahead F p (n + k)) → (a : A) → a ≡ power_ahead F q 0 → a ≡ power_ahead F p n
  answer_skipped p q n skipped a e = let z : n + 0 ≡ n = omega arith in e ∙ skipped 0 ∙ ap (power_ahead F p) z

  module _ (r : PowersRange A) (after : ℕ) (some : r.after ≡ Some after) where
    -- a step answers the first of what is coming, and leaves the others
    pub coming_stepped : (a : A) (q : Powers A) (o : Option ℕ) → a ≡ power_ahead F r.powers 0 → SomeIff o (1 ≤ after) (after - 1) → ((k : ℕ) → power_ahead F q k ≡ power_ahead F r.powers (suc k)) → remaining_powers F r ≡ a ∷ remaining_powers F (record { powers = q; after = o })
    coming_stepped a q o is c e =
        ap (λ o. tab (left_count o) (power_ahead F r.powers)) some
        ∙ ap₂ ◌∷◌ (sym is) (sym (ap (λ n. tab n (power_ahead F q)) (left_less o after c) ∙ tab_same after (power_ahead F q) (λ k. power_ahead F r.powers (suc k)) (λ k _. e k)))

    pub coming_skipped : (q : Powers A) (o : Option ℕ) (n : ℕ) → SomeIff o (n ≤ after) (after - n) → ((k : ℕ) → power_ahead F q k ≡ power_ahead F r.powers (n + k)) → remaining_powers F (record { powers = q; after = o }) ≡ drop n (remaining_powers F r)
    coming_skipped q o n c e =
        ap (λ m. tab m (power_ahead F q)) (left_skipped o after n c) ∙ tab_same (suc after - n) (power_ahead F q) (λ k. power_ahead F r.powers (n + k)) (λ k _. e k)
        ∙ tab_drop (suc after) n (power_ahead F r.powers) ∙ ap (λ o. drop n (tab (left_count o) (power_ahead F r.powers))) (sym some)

  -- the answer, and what is left, after a skip from r to m and a step from m to t
  module _ (r m t : PowersRange A) (n : ℕ) (skipped : remaining_powers F m ≡ drop n (remaining_powers F r)) where
    pub answer_nth : (a : Option A) → YieldsFirst (remaining_powers F) m a t → a ≡ slice_get (remaining_powers F r) n
    answer_nth a e = (first a (remaining_powers F m) (remaining_powers F t) e).0 ∙ ap (λ xs. slice_get xs 0) skipped ∙ nth_drop (remaining_powers F r) n

    pub rest_nth : (a : Option A) → YieldsFirst (remaining_powers F) m a t → remaining_powers F t ≡ drop (n + 1) (remaining_powers F r)
    rest_nth a e = (first a (remaining_powers F m) (remaining_powers F t) e).1 ∙ ap (drop 1) skipped ∙ drop-drop 1 n (remaining_powers F r)

  pub coming_range : (x power : A) (a b : ℕ) (o : Option ℕ) → power ≡ pow F x a → SomeIff o (a ≤ b) (b - a) → remaining_powers F (record { powers = record { base = x; next = power }; after = o }) ≡ tab (b + 1 - a) (λ k. pow F x (a + k))
  coming_range x power a b o e c =
      ap (λ n. tab n (λ k. F.mul power (pow F x k))) (left_range o a b c)
      ∙ tab_same (b + 1 - a) (λ k. F.mul power (pow F x k)) (λ k. pow F x (a + k)) (λ k _. ap (λ y. F.mul y (pow F x k)) e ∙ sym (pow_add F x a k))
