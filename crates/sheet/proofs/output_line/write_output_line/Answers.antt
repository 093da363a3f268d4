use Rattle.std.proofs.Common.{◌≡◌, [], ◌∷◌, ◌++◌, length, drop, set, ap, ◌∙◌, arith, rules}
use Rattle.std.proofs.lemmas.List.{drop-set, drop_all}
use Rattle.sheet.specs.Columns.{column}
use Rattle.sheet.specs.OutputLines.{output_line}
use Rattle.sheet.proofs.SideBySide.{five_columns}
use Rattle.sheet.proofs.output_line.write_output_line.Goals as goal

pub returns : goal.returns
returns c =
    let report = c.args.report.now in
    let text = c.args.text.now in
    let long : length text ≡ 31 = search rules in
    let end : drop 30 (set text 30 10) ≡ 10 ∷ [] = drop-set text 30 10 (omega arith) ∙ ap (λ ys. 10 ∷ ys) (drop_all 31 text (omega arith)) in
    let same :
    column 6 report.line ++ (column 4 c.from.result ++ (column 4 report.changes ++ (column 8 c.from-2.result ++ (column 8 c.from-3.result ++ drop 30 (set text 30 10))))) ≡ output_line report = simp (c.from.ensures, c.from-2.ensures, c.from-3.ensures, end) in
    five_columns (set text 30 10) _ _ _ _ _ report.line _ report.changes _ _
    c.put_column.ensures c.put_column-2.ensures c.put_column-3.ensures c.put_column-4.ensures c.put_column-5.ensures
    ∙ same
