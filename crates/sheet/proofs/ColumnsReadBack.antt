-- A column says the number that was written into it, if the number has no more digits than the column has places.
use Rattle.std.proofs.Common.{◌≡◌, ℕ, zero, suc, ◌+◌, ◌-◌, ◌*◌, ◌/◌, ◌%◌, ◌^◌, ◌<◌, cond, eqb, List, [], ◌∷◌, ◌++◌, Some, sym, refl, ap, ◌∙◌, inl, inr, append_assoc, mod-lt, div-lt_iff_lt-mul, pow-suc, div-add-mod', arith}
use native.Mathlib.Nat.{pow-zero}
use Rattle.std.proofs.lemmas.Bool.{cond-true, cond-false, ne_eqb, cases_eq, le-leb, and_from}
use Rattle.sheet.specs.Columns.{front, column, is_digit, decimal_after, read_column}
use Rattle.sheet.proofs.ColumnSteps.{column_suc}

-- a digit is read as such
one_digit : (n d : ℕ) (bytes : List ℕ) → d < 10 → decimal_after n ((48 + d) ∷ bytes) ≡ decimal_after (n * 10 + d) bytes
one_digit n d bytes h =
    cond-true (is_digit (48 + d)) _ _ (and_from _ _ (le-leb 48 (48 + d) (omega arith)) (le-leb (48 + d) 57 (omega arith)))
    ∙ ap (λ (m : ℕ). decimal_after (n * 10 + m) bytes) (let e : (48 + d) - 48 ≡ d = omega arith in e)

first_digit : (d : ℕ) (bytes : List ℕ) → read_column ((48 + d) ∷ bytes) ≡ decimal_after 0 ((48 + d) ∷ bytes)
first_digit d bytes = cond-false (eqb (48 + d) 32) _ _ (ne_eqb (48 + d) 32 (λ e. omega arith))

last_digit : (n : ℕ) → n % 10 < 10
last_digit n = mod-lt n (omega arith)

pub all_digits : (n : ℕ) (bytes : List ℕ) → decimal_after (n / 10) ((48 + n % 10) ∷ bytes) ≡ decimal_after n bytes
all_digits n bytes =
    one_digit (n / 10) (n % 10) bytes (last_digit n) ∙ ap (λ (m : ℕ). decimal_after m bytes) (div-add-mod' n 10)

tenth_below : (width n : ℕ) → n < 10 ^ suc width → n / 10 < 10 ^ width
tenth_below width n h =
    let tens : 10 ^ suc width ≡ 10 ^ width * 10 = pow-suc 10 width in
    (div-lt_iff_lt-mul {k = 10} {x = n} {y = 10 ^ width} (omega arith)).1 (omega arith)

spaces_skipped : (width : ℕ) (bytes : List ℕ) → read_column (front width 0 ++ bytes) ≡ read_column bytes
spaces_skipped zero bytes = refl
spaces_skipped (suc width) bytes = ap read_column (append_assoc (front width 0) (32 ∷ []) bytes) ∙ spaces_skipped width (32 ∷ bytes)

-- what comes before a digit says the number before it
front_says : (width n d : ℕ) (bytes : List ℕ) → n < 10 ^ width → read_column (front width n ++ (48 + d) ∷ bytes) ≡ decimal_after n ((48 + d) ∷ bytes)
front_says zero n d bytes h =
    let none : n ≡ 0 = omega (arith, pow-zero 10) in
    first_digit d bytes ∙ ap (λ (m : ℕ). decimal_after m ((48 + d) ∷ bytes)) (sym none)
front_says (suc width) n d bytes h =
    ap read_column (append_assoc (front width (n / 10)) _ _) ∙
    elim (cases_eq n 0) [
      | inl e ↦
          ap (λ (m : ℕ). read_column (front width (m / 10) ++ (cond (eqb m 0) 32 (48 + m % 10) ∷ (48 + d) ∷ bytes))) e
          ∙ spaces_skipped width (32 ∷ (48 + d) ∷ bytes) ∙ first_digit d bytes
          ∙ ap (λ (m : ℕ). decimal_after m ((48 + d) ∷ bytes)) (sym e)
      | inr ne ↦
          ap (λ (b : ℕ). read_column (front width (n / 10) ++ (b ∷ (48 + d) ∷ bytes))) (cond-false (eqb n 0) 32 (48 + n % 10) (ne_eqb n 0 ne))
          ∙ front_says width (n / 10) (n % 10) ((48 + d) ∷ bytes) (tenth_below width n h)
          ∙ all_digits n ((48 + d) ∷ bytes)
    ]

pub column_reads_back : (width n : ℕ) → 0 < width → n < 10 ^ width → read_column (column width n) ≡ Some n
column_reads_back zero n h fits = absurd (omega arith)
column_reads_back (suc width) n h fits =
    ap read_column (column_suc width n) ∙ front_says width (n / 10) (n % 10) [] (tenth_below width n fits) ∙ all_digits n []
