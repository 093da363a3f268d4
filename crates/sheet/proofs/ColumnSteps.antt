-- A column, one place after another from its last.
use Rattle.std.proofs.Common.{◌≡◌, ℕ, zero, suc, ◌+◌, ◌-◌, ◌/◌, ◌%◌, ◌<◌, cond, ◌&&◌, eqb, ltb, List, [], ◌∷◌, ◌++◌, length, take, set, reverse, sym, refl, ap, ◌∙◌, append_assoc, add-one, arith}
use Rattle.std.proofs.lemmas.List.{length-set, length_push, reverse-append, take_more_set}
use Rattle.std.proofs.lemmas.Bool.Decides.{nat_tests}
use Rattle.sheet.specs.Columns.{front, column}

pub column_suc : (width n : ℕ) → column (suc width) n ≡ front width (n / 10) ++ (48 + n % 10) ∷ []
unfolding column
column_suc width n = refl

pub column_zero : (n : ℕ) → column 0 n ≡ []
unfolding column
column_zero n = refl

length_front : (width n : ℕ) → length (front width n) ≡ width
length_front zero n = refl
length_front (suc width) n = length_push (front width (n / 10)) _ ∙ add-one _ ∙ ap (λ (k : ℕ). suc k) (length_front width (n / 10))

pub length_column : (width n : ℕ) → length (column width n) ≡ width
length_column zero n = ap length (column_zero n)
length_column (suc width) n =
    ap length (column_suc width n) ∙ length_push (front width (n / 10)) _ ∙ add-one _ ∙ ap (λ (k : ℕ). suc k) (length_front width (n / 10))

-- what is still to be written once some places are, last digit first
abbrev pub ahead : ℕ → ℕ → ℕ → List ℕ
ahead zero width n = reverse (column width n)
ahead (suc written) width n = reverse (front width n)

reverse_push : (bytes : List ℕ) (byte : ℕ) → reverse (bytes ++ byte ∷ []) ≡ byte ∷ reverse bytes
reverse_push bytes byte = reverse-append bytes (byte ∷ [])

-- the next place: a digit, or a space where none is left before the last
next_place : (written width n byte : ℕ) → byte ≡ cond (eqb n 0 && ltb 0 written) 32 (48 + n % 10) → ahead written (suc width) n ≡ byte ∷ reverse (front width (n / 10))
next_place zero width n byte which =
    let digit : byte ≡ 48 + n % 10 = grind (arith, nat_tests) in
    ap reverse (column_suc width n) ∙ reverse_push (front width (n / 10)) (48 + n % 10) ∙ ap (λ (b : ℕ). b ∷ reverse (front width (n / 10))) (sym digit)
next_place (suc written) width n byte which =
    let either : byte ≡ cond (eqb n 0) 32 (48 + n % 10) = grind (arith, nat_tests) in
    reverse_push (front width (n / 10)) _ ∙ ap (λ (b : ℕ). b ∷ reverse (front width (n / 10))) (sym either)

pub one_place : (out : List ℕ) (i n byte : ℕ) → i < length out → byte ≡ cond (eqb n 0 && ltb 0 i) 32 (48 + n % 10)
    → take (i + 1) (set out i byte) ++ ahead (i + 1) (length (set out i byte) - (i + 1)) (n / 10) ≡ take i out ++ ahead i (length out - i) n
one_place out i n byte h which =
    let width = length out - (i + 1) in
    let left : length out - i ≡ suc width = omega arith in
    ap (λ ys. ys ++ ahead (i + 1) (length (set out i byte) - (i + 1)) (n / 10)) (take_more_set out i byte h)
    ∙ ap (λ (k : ℕ). (take i out ++ byte ∷ []) ++ ahead (i + 1) (k - (i + 1)) (n / 10)) (length-set out i byte)
    ∙ ap (λ (k : ℕ). (take i out ++ byte ∷ []) ++ ahead k width (n / 10)) (add-one i)
    ∙ append_assoc (take i out) (byte ∷ []) _
    ∙ ap (λ ys. take i out ++ ys) (sym (next_place i width n byte which))
    ∙ ap (λ (k : ℕ). take i out ++ ahead i k n) (sym left)

pub none_ahead : (written n : ℕ) → ahead written 0 n ≡ []
none_ahead zero n = ap reverse (column_zero n)
none_ahead (suc written) n = refl
