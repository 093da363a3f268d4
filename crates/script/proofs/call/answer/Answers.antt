use Rattle.std.proofs.Common.{Ok, Err, refl}
use Rattle.std.proofs.lemmas.Result.{err_from_is_err_and}
use Rattle.script.proofs.Answered.{wrote, blanked, doubted, wiped}
use Rattle.script.proofs.call.answer.Goals as goal
use Rattle.script.proofs.call.answer.Goals.{in-Write+in_ok-write-in-Write, in-Blank+in_ok-blank-in-Blank, in-Doubt+in_ok-doubt-in-Doubt, in-Wipe, in-Seal+in_ok-seal-in-Seal}

pub returns-in_err-write-in-Write-clause-follows : goal.returns-in_err-write-in-Write-clause-follows
returns-in_err-write-in-Write-clause-follows g c =
    let p = err_from_is_err_and c.from_residual.result c.from_residual.ensures.1 in
    let t = c.in_err-write-in-Write in
    simp (c.in-Write.is, p.1, p.2) (wrote _ _ _ (Err t.field-0.0) refl c.in-Write.v t.ensures.answer t.ensures.book)

pub returns-in_err-blank-in-Blank-clause-follows : goal.returns-in_err-blank-in-Blank-clause-follows
returns-in_err-blank-in-Blank-clause-follows g c =
    let p = err_from_is_err_and c.from_residual-in_err-blank-in-Blank.result c.from_residual-in_err-blank-in-Blank.ensures.1 in
    let t = c.in_err-blank-in-Blank in
    simp (c.in-Blank.is, p.1, p.2) (blanked _ _ _ (Err t.field-0.0) refl t.ensures.answer t.ensures.book)

pub returns-in_err-doubt-in-Doubt-clause-follows : goal.returns-in_err-doubt-in-Doubt-clause-follows
returns-in_err-doubt-in-Doubt-clause-follows g c =
    let p = err_from_is_err_and c.from_residual-in_err-doubt-in-Doubt.result c.from_residual-in_err-doubt-in-Doubt.ensures.1 in
    let t = c.in_err-doubt-in-Doubt in
    simp (c.in-Doubt.is, p.1, p.2) (doubted _ _ _ (Err t.field-0.0) refl c.in-Doubt.place t.ensures.answer t.ensures.book)

pub returns-clause-follows : goal.returns-clause-follows
returns-clause-follows g c =
    elim c.match-call.branch [
      | in-Write+in_ok-write-in-Write w ↦ simp (w.in-Write.is, w.slip-is) (wrote _ _ _ (Ok tt) refl w.in-Write.v w.in_ok-write-in-Write.ensures.answer w.in_ok-write-in-Write.ensures.book)
      | in-Blank+in_ok-blank-in-Blank w ↦ simp (w.in-Blank.is, w.slip-is) (blanked _ _ _ (Ok tt) refl w.in_ok-blank-in-Blank.ensures.answer w.in_ok-blank-in-Blank.ensures.book)
      | in-Doubt+in_ok-doubt-in-Doubt w ↦ simp (w.in-Doubt.is, w.slip-is) (doubted _ _ _ (Ok tt) refl w.in-Doubt.place w.in_ok-doubt-in-Doubt.ensures.answer w.in_ok-doubt-in-Doubt.ensures.book)
      | in-Wipe w ↦ simp (w.in-Wipe.is, w.slip-is) (wiped _ _ w.wipe.ensures)
      | in-Seal+in_ok-seal-in-Seal w ↦ simp (w.in-Seal.is, w.slip-is) w.in_ok-seal-in-Seal.ensures
    ]
