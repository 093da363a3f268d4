use Rattle.std.proofs.Common.{◌≡◌, ◌+◌, ◌-◌, ◌++◌, length, take, replicate, ap, ◌∙◌, ap₂, arith}
use Rattle.std.proofs.lemmas.List.{length-take-le}
use Rattle.std.proofs.lemmas.Slice.{take-put_mid, drop-put_mid}
use borrow.Rule.Slice.PartMut.{put_mid}
use Rattle.algebra.specs.Register.{updated_list}
use Rattle.lists.proofs.Grown.{change_grown}
use Rattle.lists.proofs.lfsr.grow.Goals as goal

pub returns-clause-list : goal.returns-clause-list
returns-clause-list g c =
    let F = g.F.Field.field in
    let conn = c.args.conn.now in
    let len = c.args.len in
    let grown = c.args.old_len + c.args.x in
    let n = grown - len in
    let zs = c.clear.new.list in
    let lz : length zs ≡ n = omega arith in
    let lc : length (take len conn) ≡ len = length-take-le len conn (omega arith) in
    let lo = length-take-le c.args.old_len c.args.old.now c.requires.older in
    let zeros : zs ≡ replicate n F.𝟘 = cc in
    let front : take grown (put_mid len n conn zs) ≡ take len conn ++ replicate n F.𝟘
    = take-put_mid len n conn zs grown (omega arith) (omega arith) ∙ ap (λ l. take len conn ++ l) zeros in
    ap₂ ◌++◌ (c.subtract_shifted.ensures ∙ ap (λ p. updated_list F p c.args.c c.args.x (take c.args.old_len c.args.old.now)) front
    ∙ change_grown F (take len conn) c.args.c c.args.x (take c.args.old_len c.args.old.now) n (omega arith))
    (drop-put_mid len n conn zs grown (omega arith) (omega arith) lz)
