use Rattle.std.proofs.Common.{◌≡◌, ◌≢◌, ℕ, ◌<◌, List, ◌∷◌, ◌++◌, [], arith, length-append, ap, sym, ◌∙◌, rules}
use Rattle.std.specs.Io.KnownBytes.{Consumes}
use Rattle.std.proofs.KnownBytes.{Consumes-trans, Consumes-kept}
use Rattle.std.proofs.lemmas.List.{length_push}
use Rattle.std.proofs.lemmas.List.Elements.{All-append, All-push}
use Rattle.std.proofs.lemmas.Result.{err_from_is_err_and}
use Rattle.lines.proofs.answering.next_line.Goals.{then-left-gt0+in_ok-next, else-left-gt0}
use Rattle.lines.proofs.answering.next_line.Goals as goal

pub returns-in_err-take_ahead : goal.returns-in_err-take_ahead
returns-in_err-take_ahead g c =
    let line = c.loop-reader.line.items in
    let a = c.in_err-take_ahead.ensures in
    let p = err_from_is_err_and c.from_residual.result c.from_residual.ensures.1 in
    (line ++ a.0, Consumes-trans _ _ _ line a.0 c.loop-reader.invariant.0 a.1, omega (arith, length-append line a.0), rw p.1 (All-append (λ x. x ≢ 10) line a.0 c.loop-reader.invariant.2 a.3))

pub returns-in_err-next : goal.returns-in_err-next
returns-in_err-next g c =
    let line = c.loop-reader.line.items in
    let a = c.in_ok-take_ahead.ensures in
    let b = rw c.if-not-branch.true at a.3 in
    let p = err_from_is_err_and c.from_residual-in_err-next.result c.from_residual-in_err-next.ensures.1 in
    (line ++ a.0, Consumes-kept _ _ _ (line ++ a.0) (Consumes-trans _ _ _ line a.0 c.loop-reader.invariant.0 a.1) c.in_err-next.ensures.err, omega (arith, length-append line a.0), rw p.1 (All-append (λ x. x ≢ 10) line a.0 c.loop-reader.invariant.2 b.0))

pub loop-reader-preserved : goal.loop-reader-preserved
loop-reader-preserved g c =
    let line = c.loop-reader.line.items in
    let byte = c.in-Some.byte in
    let a = c.in_ok-take_ahead.ensures in
    let b = rw c.if-not-branch.true at a.3 in
    let got : Consumes (g.R.Read.remaining c.take_ahead.new.self) (g.R.Read.remaining c.if-left-gt0.reader) (byte ∷ []) × (0 < c.take_ahead.new.left) = elim c.if-left-gt0.branch [
      | then-left-gt0+in_ok-next w ↦ (rw w.reader-is (rw (sym w.next-is ∙ c.in-Some.is) at w.in_ok-next.ensures.byte), w.if-left-gt0.true)
      | else-left-gt0 w ↦ cc
    ] in
    let items : c.push.new.self.items ≡ c.take_ahead.new.line.items ++ byte ∷ [] = search rules in
    let all = items ∙ ap (λ (xs : List ℕ). xs ++ byte ∷ []) b.1 in
    rw all (Consumes-trans _ _ _ (line ++ a.0) (byte ∷ []) (Consumes-trans _ _ _ line a.0 c.loop-reader.invariant.0 a.1) got.0, omega (arith, length_push (line ++ a.0) byte, length-append line a.0), All-push (λ x. x ≢ 10) (line ++ a.0) byte (All-append (λ x. x ≢ 10) line a.0 c.loop-reader.invariant.2 b.0) c.if-byte-eq10.false)

pub returns-in_err-push : goal.returns-in_err-push
returns-in_err-push g c =
    let line = c.loop-reader.line.items in
    let byte = c.in-Some.byte in
    let a = c.in_ok-take_ahead.ensures in
    let b = rw c.if-not-branch.true at a.3 in
    let got : Consumes (g.R.Read.remaining c.take_ahead.new.self) (g.R.Read.remaining c.if-left-gt0.reader) (byte ∷ []) × (0 < c.take_ahead.new.left) = elim c.if-left-gt0.branch [
      | then-left-gt0+in_ok-next w ↦ (rw w.reader-is (rw (sym w.next-is ∙ c.in-Some.is) at w.in_ok-next.ensures.byte), w.if-left-gt0.true)
      | else-left-gt0 w ↦ cc
    ] in
    let p = err_from_is_err_and c.from_residual-in_err-push.result c.from_residual-in_err-push.ensures.1 in
    ((line ++ a.0) ++ byte ∷ [], Consumes-trans _ _ _ (line ++ a.0) (byte ∷ []) (Consumes-trans _ _ _ line a.0 c.loop-reader.invariant.0 a.1) got.0, omega (arith, length_push (line ++ a.0) byte, length-append line a.0), rw p.1 (All-push (λ x. x ≢ 10) (line ++ a.0) byte (All-append (λ x. x ≢ 10) line a.0 c.loop-reader.invariant.2 b.0) c.if-byte-eq10.false))
