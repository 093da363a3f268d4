-- Columns that are put into a text one after another.
use Rattle.std.proofs.Common.{◌≡◌, ℕ, ◌+◌, List, ◌++◌, length, take, drop, sym, ap, ◌∙◌, append_assoc, arith}
use Rattle.std.proofs.lemmas.List.{drop_at, drop-drop, length-append, take_at}
use Rattle.sheet.specs.Columns.{column}
use Rattle.sheet.proofs.ColumnSteps.{length_column}

-- the next column, after what is done
pub next_column : (start done before after : List ℕ) (at width n : ℕ) → before ≡ done ++ drop at start → length done ≡ at → after ≡ take at before ++ (column width n ++ drop (at + width) before) → after ≡ (done ++ column width n) ++ drop (at + width) start
next_column start done before after at width n e l p =
    let rest = drop at start in
    p ∙ ap (λ ys. take at ys ++ (column width n ++ drop (at + width) ys)) e
    ∙ ap (λ ys. ys ++ (column width n ++ drop (at + width) (done ++ rest))) (take_at done rest at l)
    ∙ ap (λ ys. done ++ (column width n ++ ys)) (sym (drop-drop width at (done ++ rest)) ∙ ap (λ ys. drop width ys) (drop_at done rest at l) ∙ drop-drop width at start)
    ∙ sym (append_assoc done (column width n) _)

length_more : (done : List ℕ) (at width n : ℕ) → length done ≡ at → length (done ++ column width n) ≡ at + width
length_more done at width n l = length-append done (column width n) ∙ omega (arith, length_column width n)

pub five_columns : (start a b c d e : List ℕ) (i j k l m : ℕ)
    → a ≡ take 0 start ++ (column 6 i ++ drop 6 start)
    → b ≡ take 6 a ++ (column 4 j ++ drop 10 a)
    → c ≡ take 10 b ++ (column 4 k ++ drop 14 b)
    → d ≡ take 14 c ++ (column 8 l ++ drop 22 c)
    → e ≡ take 22 d ++ (column 8 m ++ drop 30 d)
    → e ≡ column 6 i ++ (column 4 j ++ (column 4 k ++ (column 8 l ++ (column 8 m ++ drop 30 start))))
five_columns start a b c d e i j k l m p q r s t =
    let one = length_column 6 i in
    let two = length_more _ 6 4 j one in
    let three = length_more _ 10 4 k two in
    let four = length_more _ 14 8 l three in
    let after_two = next_column start _ a b 6 4 j p one q in
    let after-three = next_column start _ b c 10 4 k after_two two r in
    let after-four = next_column start _ c d 14 8 l after-three three s in
    next_column start _ d e 22 8 m after-four four t ∙ simp append_assoc
