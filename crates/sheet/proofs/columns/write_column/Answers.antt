use Rattle.std.proofs.Common.{◌≡◌, ℕ, ◌+◌, ◌-◌, ◌%◌, cond, ◌&&◌, eqb, ltb, ◌++◌, length, take, reverse, sym, ap, ◌∙◌, append-nil, arith}
use Rattle.std.proofs.lemmas.Bool.Decides.{nat_tests}
use Rattle.std.proofs.lemmas.List.{reverse-reverse, take_all}
use Rattle.sheet.specs.Columns.{column, read_column}
use Rattle.sheet.proofs.ColumnSteps.{ahead, one_place, none_ahead}
use Rattle.sheet.proofs.ColumnsReadBack.{column_reads_back}
use Rattle.sheet.proofs.columns.write_column.Goals as goal

pub loop-written-preserved : goal.loop-written-preserved
loop-written-preserved c =
    let n = c.loop-written.rest in
    let which : c.if-rest-eq0.place ≡ cond (eqb n 0 && ltb 0 c.loop-written.written) 32 (48 + n % 10) = grind (arith, nat_tests, c.if-rest-eq0.branch) in
    one_place c.loop-written.out c.loop-written.written n c.if-rest-eq0.place (omega arith) which ∙ c.loop-written.invariant

pub returns-clause-value : goal.returns-clause-value
returns-clause-value c =
    let out = c.loop-written.out in
    let i = c.loop-written.written in
    let end : length out - i ≡ 0 = omega arith in
    let all : take i out ++ ahead i (length out - i) c.loop-written.rest ≡ out = ap (λ ys. take i out ++ ys) (ap (λ (k : ℕ). ahead i k c.loop-written.rest) end ∙ none_ahead i c.loop-written.rest) ∙ append-nil (take i out) ∙ take_all i out (omega arith) in
    c.reverse.ensures.after ∙ ap reverse (sym all ∙ c.loop-written.invariant) ∙ reverse-reverse (column (length c.args.out.now) c.args.number)

pub returns-clause-read_back : goal.returns-clause-read_back
returns-clause-read_back c =
    λ wide fits. ap read_column (returns-clause-value c) ∙ column_reads_back (length c.args.out.now) c.args.number wide fits
