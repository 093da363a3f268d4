-- Multiples and powers as values joined, and a turn of the walk by halves in any monoid.
use Rattle.std.proofs.Common.{◌≡◌, ℕ, zero, suc, ◌+◌, ◌/◌, ◌%◌, ◌⊎◌, sym, refl, ap, ◌∙◌, ap₂, inl, inr, zero-add, arith}
use Rattle.algebra.specs.Field.{FieldOn, pow, multiple}
use Rattle.fields.specs.Monoid.{IsMonoid, repeat, sum_unit, sum_of, product_unit, product_of}
use Rattle.fields.specs.declared.monoid.Product.{Product}
use Rattle.fields.specs.declared.monoid.Sum.{Sum}

module _ {A : Type 0} (F : FieldOn A) where
  pub repeated_sum : (x : Sum A) (n : ℕ) → (repeat (sum_unit F) (sum_of F) x n).0 ≡ multiple F x.0 n
  repeated_sum x zero = refl
  repeated_sum x (suc n) = ap (F.add x.0) (repeated_sum x n)

  pub repeated_product : (x : Product A) (n : ℕ) → (repeat (product_unit F) (product_of F) x n).0 ≡ pow F x.0 n
  repeated_product x zero = refl
  repeated_product x (suc n) = ap (F.mul x.0) (repeated_product x n)

module _ {M : Type 0} {neutral : M} {op : M → M → M} (laws : IsMonoid neutral op) where
  open laws use {assoc}

  abbrev pub times : M → ℕ → M
  times = repeat neutral op

  -- x joined to itself n times is x joined n + n times
  times_double : (x : M) (n : ℕ) → times (op x x) n ≡ times x (n + n)
  times_double x zero = ap (times x) (sym (zero-add 0))
  times_double x (suc n) =
      let twice : suc n + suc n ≡ suc (suc (n + n)) = omega arith in
      ap (op (op x x)) (times_double x n) ∙ assoc x x (times x (n + n)) ∙ ap (times x) (sym twice)

  -- x is doubled, and the result takes it in where the count is odd
  pub turns : (r x r' x' : M) (n : ℕ) → ((n % 2 ≡ 1) × (r' ≡ op r x)) ⊎ ((n % 2 ≡ 0) × (r' ≡ r)) → x' ≡ op x x → op r' (times x' (n / 2)) ≡ op r (times x n)
  turns r x r' x' n came doubled = ap (λ y. op r' (times y (n / 2))) doubled ∙ ap (op r') (times_double x (n / 2)) ∙ by came where
    by : ((n % 2 ≡ 1) × (r' ≡ op r x)) ⊎ ((n % 2 ≡ 0) × (r' ≡ r)) → op r' (times x (n / 2 + n / 2)) ≡ op r (times x n)
    by (inl (odd, is)) =
        let e : suc (n / 2 + n / 2) ≡ n = omega arith in
        ap (λ y. op y (times x (n / 2 + n / 2))) is ∙ assoc r x (times x (n / 2 + n / 2)) ∙ ap (λ j. op r (times x j)) e
    by (inr (even, is)) =
        let e : n / 2 + n / 2 ≡ n = omega arith in
        ap₂ (λ y j. op y (times x j)) is e
