use Rattle.std.proofs.Common.{◌≢◌, ◌∷◌, ◌++◌, [], arith}
use Rattle.std.proofs.KnownBytes.{Consumes-trans}
use Rattle.std.proofs.lemmas.List.{length_push}
use Rattle.std.proofs.lemmas.List.Elements.{All-push}
use Rattle.std.proofs.lemmas.Result.{err_from_is_err_and}
use Rattle.lines.proofs.reading.read_line.Goals as goal

pub returns-in_err-push : goal.returns-in_err-push
returns-in_err-push g c =
    let line = c.loop-left.line.items in
    let byte = c.in-Some.byte in
    let p = err_from_is_err_and c.from_residual-in_err-push.result c.from_residual-in_err-push.ensures.1 in
    (line ++ byte ∷ [], Consumes-trans _ _ _ line (byte ∷ []) c.loop-left.invariant.0 (rw c.in-Some.is at c.in_ok-byte.ensures.byte), omega (arith, length_push line byte), rw p.1 (All-push (λ x. x ≢ 10) line byte c.loop-left.invariant.2 c.if-byte-eq10.false))
