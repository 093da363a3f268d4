-- Output lines of 31 bytes, written one after another, are where a sheet has them.
use Rattle.std.proofs.Common.{◌≡◌, ℕ, zero, suc, ◌+◌, ◌*◌, ◌<◌, None, Some, Ok, Err, OnOk, Option, Result, IfSome, List, [], ◌∷◌, ◌++◌, length, get_or, take, drop, sym, ap, subst, ◌∙◌, arith}
use Rattle.std.proofs.lemmas.List.{drop_at, drop-drop, length-append, take_at}
use Rattle.std.specs.Io.KnownBytes.{Appends}
use Rattle.algebra.specs.NumericCode.{NumericCode}
use Rattle.sheet.specs.Columns.{column}
use Rattle.sheet.specs.OutputLines.{output_line}
use Rattle.sheet.specs.declared.output_line.Report.{Report}
use Rattle.sheet.proofs.ColumnSteps.{length_column}
use Rattle.sheet.specs.Shown.{ShowsLine, Whole, outcome_at, report_of}
use Rattle.lines.specs.Streams.{AnswersAll, Answers}

pub on_ok : {X E P Q : Type 0} → (P → Q) → (r : Result X E) → OnOk r P → OnOk r Q
on_ok f (Ok x) p = f p
on_ok f (Err e) p = tt

two : (xs ys : List ℕ) (m n : ℕ) → length xs ≡ m → length ys ≡ n → length (xs ++ ys) ≡ m + n
two xs ys m n e f = let l = length-append xs ys in omega arith

length_output_line : (told : Report) → length (output_line told) ≡ 31
length_output_line told =
    let tail = two (column 8 told.seconds) (10 ∷ []) 8 1 (length_column 8 told.seconds) (omega arith) in
    let sail = two (column 8 told.sail) _ 8 9 (length_column 8 told.sail) tail in
    let changes = two (column 4 told.changes) _ 4 17 (length_column 4 told.changes) sail in
    let refusal = two (column 4 told.refusal) _ 4 21 (length_column 4 told.refusal) changes in
    two (column 6 told.line) _ 6 25 (length_column 6 told.line) refusal

module _ (C : NumericCode) where
  length_shown : (number : ℕ) (line text : List ℕ) → ShowsLine C number line text → length text ≡ 31
  length_shown number line text s = ap length s.2 ∙ length_output_line (report_of number (outcome_at number s.0))

  length_answers : (lines : List (List ℕ)) (number : ℕ) (bytes : List ℕ) → Answers (ShowsLine C) number lines bytes → length bytes ≡ 31 * length lines
  length_answers [] number bytes a = ap length a
  length_answers (line ∷ lines) number bytes a =
      let l = length_shown number line a.0 a.3 in
      let m = length_answers lines (number + 1) a.1 a.4 in
      let all = ap length a.2 ∙ length-append a.0 a.1 in
      omega arith

  output_answers : (lines : List (List ℕ)) (number : ℕ) (bytes : List ℕ) → Answers (ShowsLine C) number lines bytes → (k : ℕ) → k < length lines
      → ShowsLine C (k + number) (get_or lines k []) (take 31 (drop (31 * k) bytes))
  output_answers [] number bytes a k h = absurd (omega arith)
  output_answers (line ∷ lines) number bytes a zero h =
      let first = ap (take 31) a.2 ∙ take_at a.0 a.1 31 (length_shown number line a.0 a.3) in
      subst (λ (n : ℕ). ShowsLine C n line (take 31 bytes)) (omega arith) (subst (λ (text : List ℕ). ShowsLine C number line text) (sym first) a.3)
  output_answers (line ∷ lines) number bytes a (suc k) h =
      let after = ap (drop 31) a.2 ∙ drop_at a.0 a.1 31 (length_shown number line a.0 a.3) in
      let on : drop (31 * k) a.1 ≡ drop (31 * suc k) bytes =
      ap (drop (31 * k)) (sym after) ∙ drop-drop (31 * k) 31 bytes ∙ ap (λ (n : ℕ). drop n bytes) (omega arith) in
      let there = output_answers lines (number + 1) a.1 a.4 k (omega arith) in
      subst (λ (n : ℕ). ShowsLine C n (get_or lines k []) (take 31 (drop (31 * suc k) bytes))) (omega arith)
      (subst (λ (rest : List ℕ). ShowsLine C (k + (number + 1)) (get_or lines k []) (take 31 rest)) on there)

  pub whole_answered : (lines : List (List ℕ)) (was now : Option (List ℕ)) → AnswersAll (ShowsLine C) lines was now
      → (bytes : List ℕ) × Appends was now bytes × Whole C lines bytes
  whole_answered lines was now a = (a.0, a.2, (length_answers lines 1 a.0 a.1, output_answers lines 1 a.0 a.1))

  pub whole_of : (lines : List ℕ → List (List ℕ)) (input was now : Option (List ℕ)) → IfSome input (λ all. AnswersAll (ShowsLine C) (lines all) was now)
      → IfSome input (λ all. (bytes : List ℕ) × Appends was now bytes × Whole C (lines all) bytes)
  whole_of lines None was now a = tt
  whole_of lines (Some all) was now a = whole_answered (lines all) was now a
