-- Lists of records, record by record.
use Rattle.std.proofs.Common.{◌≡◌, ℕ, ◌<◌, Bool, true, false, eqb, ◌||◌, ◌⊎◌, List, [], ◌∷◌, length, MatchBool, Decides, sym, refl, ◌∙◌, subst, inl, inr, arith}
use Rattle.std.specs.List.{AllWithin, HoldsAt, list_any, range_with_len}
use Rattle.std.proofs.lemmas.List.FromFn.{length-range_with_len, get_or-range_with_len}
use Rattle.std.proofs.lemmas.Bool.{both_ways, cases_lt}
use Rattle.std.proofs.lemmas.Bool.Decides.{Decides-eqb, Decides-like, Decides-or}
use Rattle.algebra.specs.Series.{Mem, here, there}
use Rattle.book.specs.Book.{Book, doubted_at}
use Rattle.book.specs.Mending.{record_places}
use Rattle.book.specs.declared.record.Record.{Record}
use Rattle.slip.proofs.Places.{doubted_at_past}
use Rattle.correction.specs.MendingSteps.Checked.{Covers}

pub decided_yes : {P : Type 0} → P → Decides true P
decided_yes p = (λ q. p, λ q. refl)

pub decided_no : {P : Type 0} → ¬ P → Decides false P
decided_no n = (λ q. absurd (both_ways false refl q), λ p. absurd (n p))

mem_cases : {p q : ℕ} {ps : List ℕ} → Mem p (q ∷ ps) → (q ≡ p) ⊎ Mem p ps
mem_cases here = inl refl
mem_cases (there m) = inr m

pub named : (p : ℕ) (cs : List Record) → Decides (list_any (λ c. eqb c.place p) cs) (Mem p (record_places cs))
named p [] = decided_no (λ m. elim m [ ])
named p (c ∷ cs) = Decides-like (eqb c.place p || list_any (λ d. eqb d.place p) cs) found mem_cases (Decides-or (eqb c.place p) (list_any (λ d. eqb d.place p) cs) (Decides-eqb c.place p) (named p cs))
  where
    found : (c.place ≡ p) ⊎ Mem p (record_places cs) → Mem p (record_places (c ∷ cs))
    found (inl e) = subst (λ q. Mem p (q ∷ record_places cs)) (sym e) here
    found (inr m) = there m

-- each doubted place of a slip of n places was looked for
pub covers_decided : (b : Book) (cs : List Record) (n : ℕ) → n ≡ length b → (r : Bool)
    → MatchBool r (AllWithin (λ p. doubted_at p b ≡ true → Mem p (record_places cs)) (range_with_len 0 n) 0 (length (range_with_len 0 n)))
    ((k : ℕ) × (k < length (range_with_len 0 n)) × HoldsAt (λ p. (doubted_at p b ≡ true) × ¬ Mem p (record_places cs)) (range_with_len 0 n) k)
    → Decides r (Covers b cs)
covers_decided b cs n e true all = decided_yes (λ p q. elim (cases_lt p n) [
  | inl l ↦ subst (λ (k : ℕ). doubted_at k b ≡ true → Mem k (record_places cs)) (get_or-range_with_len 0 n p 0 l ∙ omega arith) (all p 0 (omega arith) (omega (arith, length-range_with_len 0 n))) q
  | inr ge ↦ absurd (both_ways (doubted_at p b) (doubted_at_past b p (omega arith)) q)
])
covers_decided b cs n e false (k, l, lacks) = decided_no (λ covers. (lacks 0).1 (covers _ (lacks 0).0))
