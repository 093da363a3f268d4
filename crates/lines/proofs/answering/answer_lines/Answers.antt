use Rattle.std.proofs.Common.{◌≡◌, ℕ, ◌+◌, ◌<◌, false, List, length, sym, ◌∙◌, subst, arith, rules}
use Rattle.std.proofs.lemmas.Bool.{both_ways, eqb-false, eqb-true}
use Rattle.std.proofs.lemmas.List.{nil_from_length}
use Rattle.lines.proofs.Coming.{all_answered, full, goes_on, input_stopped, last_one, no_more, of_read, output_stopped, start}
use Rattle.lines.proofs.answering.answer_lines.Goals.{else-not-more-via-then-not-more+else-is_empty, else-not-more-via-else-not-more}
use Rattle.lines.proofs.answering.answer_lines.Goals as goal

pub loop-answered-init : goal.loop-answered-init
loop-answered-init g c = start g.C.Clerk.answers 65536 _ _

pub overflow_add-answered : goal.overflow_add-answered
overflow_add-answered g c = search rules

pub returns-in-Err-clause-so_far : goal.returns-in-Err-clause-so_far
returns-in-Err-clause-so_far g c =
    let read = c.in-Err.ensures in
    input_stopped g.C.Clerk.answers 65536 _ _ _ _ _ _ c.loop-answered.invariant _ _ read.0 read.1 read.2 c.in-Err.error read.3

pub returns-then-is_empty-clause-so_far : goal.returns-then-is_empty-clause-so_far
returns-then-is_empty-clause-so_far g c =
    let read = c.in-Ok.ensures in
    let line = c.next_line.new.line in
    let last = rw c.if-not-more.true at read.3 in
    let zero = eqb-true _ 0 (sym c.is_empty.ensures ∙ c.if-is_empty.true) in
    let none : length line.items ≡ 0 = omega (arith, line.ok.0) in
    no_more g.C.Clerk.answers 65536 _ _ _ _ _ _ c.loop-answered.invariant _ _ read.0 read.1 read.2 (last.1 ∙ nil_from_length line.items none) last.2

pub returns-then-is_empty-clause-all : goal.returns-then-is_empty-clause-all
returns-then-is_empty-clause-all g c = all_answered g.C.Clerk.answers 65536 _ _ _ _ _ (returns-then-is_empty-clause-so_far g c)

pub returns-in-Err-answer_line-clause-so_far : goal.returns-in-Err-answer_line-clause-so_far
returns-in-Err-answer_line-clause-so_far g c =
    let read = c.in-Ok.ensures in
    let line = c.next_line.new.line in
    let wrote = c.in-Err-answer_line.ensures in
    let is = subst (λ (l : List ℕ). g.C.Clerk.answers (c.loop-answered.answered + 1) l wrote.0) c.deref.ensures.value wrote.2 in
    let some : c.in-Ok.more ≡ false → 0 < length line.items = elim c.else-not-more.branch [
      | else-not-more-via-then-not-more+else-is_empty w ↦ λ _.
          let ne = eqb-false _ 0 (sym w.is_empty.ensures ∙ w.if-is_empty.false) in
          omega (arith, line.ok.0)
      | else-not-more-via-else-not-more w ↦ λ e. absurd (both_ways c.in-Ok.more e w.if-not-more.false)
    ] in
    let same = of_read g.C.Clerk.answers 65536 _ _ _ _ _ _ c.loop-answered.invariant _ _ read.0 read.1 read.2 line.items wrote.0 wrote.1 _ is wrote.3 c.in-Ok.more read.3 some in
    output_stopped g.C.Clerk.answers 65536 _ _ _ _ _ _ c.loop-answered.invariant _ _ read.0 read.1 read.2 line.items wrote.0 wrote.1 _ is wrote.3 c.in-Err-answer_line.error same

pub returns-then-not-more-2-clause-so_far : goal.returns-then-not-more-2-clause-so_far
returns-then-not-more-2-clause-so_far g c =
    let read = c.in-Ok.ensures in
    let line = c.next_line.new.line in
    let wrote = c.in_default.ensures in
    let last = rw c.if-not-more-2.true at read.3 in
    let is = subst (λ (l : List ℕ). g.C.Clerk.answers (c.loop-answered.answered + 1) l wrote.0) c.deref.ensures.value wrote.2 in
    let some : 0 < length line.items = elim c.else-not-more.branch [
      | else-not-more-via-then-not-more+else-is_empty w ↦
          let ne = eqb-false _ 0 (sym w.is_empty.ensures ∙ w.if-is_empty.false) in
          omega (arith, line.ok.0)
      | else-not-more-via-else-not-more w ↦ absurd (both_ways c.in-Ok.more c.if-not-more-2.true w.if-not-more.false)
    ] in
    last_one g.C.Clerk.answers 65536 _ _ _ _ _ _ c.loop-answered.invariant _ _ read.0 read.1 read.2 line.items wrote.0 wrote.1 _ is wrote.3 last.0 last.1 some last.2 wrote.4

pub returns-then-not-more-2-clause-all : goal.returns-then-not-more-2-clause-all
returns-then-not-more-2-clause-all g c = all_answered g.C.Clerk.answers 65536 _ _ _ _ _ (returns-then-not-more-2-clause-so_far g c)

pub loop-answered-preserved : goal.loop-answered-preserved
loop-answered-preserved g c =
    let read = c.in-Ok.ensures in
    let line = c.next_line.new.line in
    let wrote = c.in_default.ensures in
    let whole = rw c.if-not-more-2.false at read.3 in
    let is = subst (λ (l : List ℕ). g.C.Clerk.answers (c.loop-answered.answered + 1) l wrote.0) c.deref.ensures.value wrote.2 in
    goes_on g.C.Clerk.answers 65536 _ _ _ _ _ _ c.loop-answered.invariant _ _ read.0 read.1 read.2 line.items wrote.0 wrote.1 _ is wrote.3 whole.0 whole.1 wrote.4

pub returns-clause-so_far : goal.returns-clause-so_far
returns-clause-so_far g c = full g.C.Clerk.answers 65536 _ _ _ _ _ _ c.loop-answered.invariant (omega arith)

pub returns-clause-all : goal.returns-clause-all
returns-clause-all g c = all_answered g.C.Clerk.answers 65536 _ _ _ _ _ (returns-clause-so_far g c)
