use Rattle.std.proofs.Common.{◌≡◌, ℕ, List, Option, Some, None, MatchOption, unwrap_or, Bor, inl, inr, refl}
use Rattle.std.specs.Str.{trim}
use Rattle.replay.specs.Lines.{IsOwed, Lacks, IsCut, instead}
use Rattle.replay.proofs.lines.owed.Goals as goal

chosen : (answers : List ℕ) (found : Option (Bor (List ℕ) × Bor (List ℕ))) (only last : Bor (List ℕ) × Bor (List ℕ)) (owed : List ℕ)
    → MatchOption found (Lacks instead answers) (λ x. IsCut instead answers x.0.now x.1.now)
    → last ≡ unwrap_or found only → only.1.now ≡ answers → owed ≡ trim last.1.now → IsOwed answers owed
chosen answers None only last owed lacks e all trimmed = inl (lacks, cc)
chosen answers (Some (theirs, ours)) only last owed round e all trimmed = inr (theirs.now, ours.now, round, cc)

pub returns : goal.returns
returns c = chosen c.args.answers.now c.split_once.result _ c.unwrap_or.result c.trim.result.now c.split_once.ensures.cases c.unwrap_or.ensures refl c.trim.ensures.trim
