use Rattle.std.proofs.Common.{◌≡◌, true, refl, arith, rules, tests}
use Rattle.std.proofs.lemmas.Iterator.{YieldsList-from_range, cases_from_all}
use Rattle.algebra.specs.Series.{Mem}
use Rattle.book.specs.Book.{doubted_at}
use Rattle.book.specs.Mending.{record_places}
use Rattle.correction.proofs.Checking.{covers_decided}
use Rattle.correction.proofs.checker.Proposal.covers.Goals as goal

pub returns : goal.returns
returns c =
    let b = c.args.self.now.slip.now in
    let cs = c.args.self.now.records.now in
    covers_decided b cs c.len.result c.len.ensures.len c.all.result
    (cases_from_all _ _ _ (λ p. doubted_at p b ≡ true → Mem p (record_places cs)) (λ p. (doubted_at p b ≡ true) × ¬ Mem p (record_places cs)) c.all.ensures.ran
    (YieldsList-from_range 0 c.len.result c.len.result refl (omega arith)) (λ x q k. search (rules, tests)) (λ x q k. search (rules, tests)))
