use Rattle.std.proofs.Common.{◌≡◌, ◌+◌, ◌++◌, drop, set, ap, ◌∙◌, arith, rules}
use Rattle.lists.proofs.Steps.{start, kept, fits, grows}
use Rattle.lists.proofs.lfsr.run.Goals as goal

pub loop-n-init : goal.loop-n-init
loop-n-init g c =
    let one = g.met.F.Field.one_is in
    start g.F.Field.field c.args.s.now c.args.conn.now c.args.old.now c.ONE.result c.ONE-2.result c.ONE-old_inverse.result (omega arith) (omega arith)
    (c.ONE.ensures ∙ one) (c.ONE-2.ensures ∙ one) (c.ONE-old_inverse.ensures ∙ one)

pub loop-n-preserved-then-old_len-x : goal.loop-n-preserved-then-old_len-x
loop-n-preserved-then-old_len-x g c =
    let F = g.F.Field.field in
    let s = c.args.s.now in
    let a = set c.args.conn.now 0 c.ONE.result in
    let l = c.loop-n in
    let r = c.product_term-d.result in
    let wrong : ¬ (r ≡ F.𝟘) = search rules in
    let conn = c.subtract_shifted.new.conn ++ drop l.len l.conn in
    kept F s a conn l.old (l.n + 1) l.len l.old_len (l.x + 1) l.old_inverse
    (fits F s a l.conn l.old l.n l.len l.old_len l.x l.old_inverse l.invariant.1 r c.product_term-d.ensures wrong c.mul-c.result c.mul-c.ensures
    conn (omega arith) (ap (λ t. t ++ drop l.len l.conn) c.subtract_shifted.ensures))

pub loop-n-preserved : goal.loop-n-preserved
loop-n-preserved g c =
    let F = g.F.Field.field in
    let s = c.args.s.now in
    let a = set c.args.conn.now 0 c.ONE.result in
    let l = c.loop-n in
    let r = c.product_term-d.result in
    let wrong : ¬ (r ≡ F.𝟘) = search rules in
    let inverse : c.in-Ok.inverse ≡ F.inv r = search rules in
    kept F s a c.grow.new.conn c.grow.new.old (l.n + 1) (l.old_len + l.x) l.len 1 c.in-Ok.inverse
    (grows F s a l.conn l.old l.n l.len l.old_len l.x l.old_inverse l.invariant.1 r c.product_term-d.ensures wrong c.mul-c.result c.mul-c.ensures
    c.grow.new.conn c.grow.new.old c.in-Ok.inverse inverse (λ t. omega arith) c.grow.ensures.list c.grow.ensures.old)
