use Rattle.std.proofs.Common.{◌≡◌, min, max, ◌++◌, length, take, drop, sym, ap, ◌∙◌, ap₂, arith, length-take}
use Rattle.algebra.specs.Poly.{coeff}
use Rattle.lists.specs.Steps.Combined.{by_entries}
use Rattle.lists.proofs.Places.{length_by_entries}
use Rattle.lists.proofs.Filled.{filled_more, filled_whole, refuses, refuses_list, accepts, accepts_list}
use Rattle.lists.proofs.fieldvec.combined.Goals as goal

pub returns-in_err-n : goal.returns-in_err-n
returns-in_err-n g c =
    let F = g.F.Field.field in
    let p = c.args.a.now in
    let q = c.args.b.now in
    let old = c.args.out.now in
    let given = min (length p) (length q) in
    let size : (h : _) → c.max.result ≡ length (by_entries F h p q) = λ h. c.max.ensures ∙ sym (length_by_entries F h p q) in
    record {
      answer = λ h each. refuses given (by_entries F h p q) old c.admit.result c.min.result c.max.result c.admit.ensures.answer c.min.ensures (size h) c.in_err-n.field-0.0 c.in_err-n.was c.from_residual.result c.from_residual.ensures.1;
      answered = λ h each. refuses_list given (by_entries F h p q) old c.admit.result c.min.result c.max.result c.admit.ensures.answer c.min.ensures (size h) c.in_err-n.field-0.0 c.in_err-n.was;
    }

pub loop-i-preserved : goal.loop-i-preserved
loop-i-preserved g c = λ h each.
    let F = g.F.Field.field in
    filled_more (λ i. h (coeff F c.args.a.now i) (coeff F c.args.b.now i)) _ c.loop-i.i c.loop-i.place-items (c.loop-i.invariant h each) c.of.result (omega arith)
    (each _ _ c.of.result c.of.ensures ∙ ap₂ h c.entry.ensures c.entry-in-loop-i.ensures)

pub returns : goal.returns
returns g c =
    let F = g.F.Field.field in
    let p = c.args.a.now in
    let q = c.args.b.now in
    let old = c.args.out.now in
    let n = c.in_ok-n.n in
    let given = min (length p) (length q) in
    let size : (h : _) → c.max.result ≡ length (by_entries F h p q) = λ h. c.max.ensures ∙ sym (length_by_entries F h p q) in
    let holds = c.in_ok-n.ensures.holds in
    let cut : length (take n old) ≡ max (length p) (length q) = omega (arith, length-take n old) in
    let all = λ (h : _) (each : _). filled_whole (λ i. h (coeff F p i) (coeff F q i)) c.loop-i.i (max (length p) (length q)) (take n old) c.loop-i.place-items (omega arith) cut (c.loop-i.invariant h each) in
    record {
      answer = λ h each. accepts given (by_entries F h p q) old c.admit.result c.min.result c.max.result c.admit.ensures.answer c.min.ensures (size h) n c.in_ok-n.was;
      answered = λ h each. accepts_list given (by_entries F h p q) old c.admit.result c.min.result c.max.result c.admit.ensures.answer c.min.ensures (size h) n _ c.in_ok-n.was (ap (λ w. w ++ drop n old) (all h each));
    }
