use Rattle.std.proofs.Common.{◌≡◌, ◌≢◌, ℕ, List, [], ◌∷◌, ap, refl, lit<}
use Rattle.std.proofs.lemmas.Bool.{ne_eqb}
use Rattle.std.proofs.lemmas.Iterator.Consumers.{YieldsList-end}
use Rattle.std.proofs.lemmas.Iterator.Splits.{YieldsList-from_str_split}
use Rattle.std.specs.Cmp.Lexicographic.{other_text}
use Rattle.replay.specs.Elements.{between_commas, entries}
use Rattle.replay.proofs.elements.read_elements.Goals as goal

entries_but_minus : (text : List ℕ) → text ≢ 45 ∷ [] → entries text ≡ between_commas text
entries_but_minus [] ne = refl
entries_but_minus (c ∷ []) ne = rw (ne_eqb c 45 (λ e. ne (ap (λ (b : ℕ). b ∷ []) e))) refl
entries_but_minus (c ∷ d ∷ text) ne = refl

pub returns : goal.returns
returns g c =
    let text = c.args.text.now in
    let parts = YieldsList-from_str_split {s = c.into_iter-part-iterator.result} 44 text (lit< tt) (cc) (cc) (cc) in
    let all = YieldsList-end parts c.loop-part.yielded _ c.loop-part.yielded_by _ _ c.in-None.is c.next.ensures.steps in
    rw (entries_but_minus text (other_text text (45 ∷ []) c.if-eq.ensures), ← all.0) c.loop-part.invariant
