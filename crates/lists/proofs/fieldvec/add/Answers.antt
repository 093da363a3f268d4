use Rattle.std.proofs.Common.{min, length, ap, ◌∙◌, rules}
use Rattle.lists.specs.Faults.{answer_count, answer_list}
use Rattle.lists.proofs.Places.{by_entries_add}
use Rattle.lists.proofs.fieldvec.add.Goals as goal

pub returns : goal.returns
returns g c =
    let F = g.F.Field.field in
    let p = c.args.a.now in
    let q = c.args.b.now in
    let old = c.args.out.now in
    let given = min (length p) (length q) in
    record {
      answer = c.combined.ensures.answer F.add (λ x y r k. search rules) ∙ ap (λ new. answer_count given new old) (by_entries_add F p q);
      answered = c.combined.ensures.answered F.add (λ x y r k. search rules) ∙ ap (λ new. answer_list given new old) (by_entries_add F p q);
    }
