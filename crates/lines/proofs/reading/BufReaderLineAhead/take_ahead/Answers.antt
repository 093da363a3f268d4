use Rattle.std.proofs.Common.{◌≡◌, ℕ, ◌+◌, ◌≤◌, ◌++◌, cond, nat_lt, length, take, arith, ap, ◌∙◌, sym, length-take}
use Rattle.std.proofs.lemmas.Bool.{le-ltb, lt-ltb}
use Rattle.std.specs.Option.{is_some, unwrap_or}
use Rattle.lines.proofs.Ahead.{found, loses_front, moved, no_more}
use Rattle.lines.proofs.reading.BufReaderLineAhead.take_ahead.Goals.{then-ended, else-ended}
use Rattle.lines.proofs.reading.BufReaderLineAhead.take_ahead.Goals as goal

pub returns : goal.returns
returns g c =
    let old = c.args.self.now in
    let held = c.buffer-held.result.now in
    let most = c.min.result in
    let ahead = take most held in
    let newline = c.newline_in.result in
    let taken = c.if-ended.taken in
    let more = unwrap_or newline (length ahead) in
    let e : c.unwrap_or-more.result ≡ more = c.unwrap_or-more.ensures in
    let f : nat_lt c.unwrap_or-more.result (length ahead) ≡ is_some newline = ap (λ (n : ℕ). nat_lt n (length ahead)) e ∙ found ahead newline c.newline_in.ensures in
    let t : taken ≡ cond (is_some newline) (more + 1) more = elim c.if-ended.branch [
      | then-ended w ↦ rw (sym f ∙ lt-ltb c.unwrap_or-more.result (length ahead) w.if-ended.true) (w.taken-is ∙ ap (λ (n : ℕ). n + 1) e)
      | else-ended w ↦ rw (sym f ∙ le-ltb c.unwrap_or-more.result (length ahead) w.if-ended.false) (w.taken-is ∙ e)
    ] in
    let put : c.extend_from_slice.new.self.items ≡ c.args.line.now.items ++ take more ahead = c.in_ok-extend_from_slice.ensures.items ∙ ap (λ (n : ℕ). c.args.line.now.items ++ take n ahead) e in
    let few : taken ≤ length ahead = no_more ahead taken newline c.newline_in.ensures t in
    let l = length-take most held in
    let m = length-take taken held in
    let k = ap length c.buffer-held.ensures in
    (take taken held, rw c.buffer-held.ensures (loses_front g.R.Read.remaining old c.consume.new.self taken (omega arith) c.consume.ensures.bytes), omega arith, rw f (moved held c.args.line.now.items c.extend_from_slice.new.self.items most taken newline c.newline_in.ensures t put))
