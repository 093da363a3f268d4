-- A symbol that is written reads as itself, in either case: tried for each of the 32.
use Rattle.std.proofs.Common.{◌≡◌, ℕ, zero, suc, ◌<◌, Bool, true, false, ◌&&◌, eqb, get_or, Some, None, Option, refl, ap, ◌∙◌, arith}
use Rattle.std.proofs.lemmas.Bool.{eqb-true, eq-eqb, false≢true}
use Rattle.std.proofs.lemmas.Bool.Decides.{Decides-below_and}
use Rattle.sheet.specs.Characters.{alphabet, read_character, in_case}
use Rattle.sheet.specs.declared.characters.Character.{Character}
use Rattle.sheet.specs.declared.characters.Character.TheVariants.{Symbol, QuestionMark}
use Rattle.sheet.specs.declared.characters.Case.{Case}
use Rattle.sheet.specs.declared.characters.Case.TheVariants.{Lower, Upper}

abbrev says : ℕ → Option Character → Bool
says v (Some (Symbol w)) = eqb w v
says v (Some QuestionMark) = false
says v None = false

says_so : (v : ℕ) (said : Option Character) → says v said ≡ true → said ≡ Some (Symbol v)
says_so v (Some (Symbol w)) e = ap (λ (n : ℕ). Some (Symbol n)) (eqb-true w v e)
says_so v (Some QuestionMark) e = absurd (false≢true e)
says_so v None e = absurd (false≢true e)

abbrev character_read_back : Case → ℕ → Option Character
character_read_back case v = read_character (in_case case (get_or alphabet v 0))

abbrev all_below : Case → ℕ → Bool
all_below case zero = true
all_below case (suc n) = says n (character_read_back case n) && all_below case n

all_32 : (case : Case) → all_below case 32 ≡ true
all_32 Lower = refl
all_32 Upper = refl

pub reads_back : (case : Case) (v : ℕ) → v < 32 → read_character (in_case case (get_or alphabet v 0)) ≡ Some (Symbol v)
reads_back case v h =
    (Decides-below_and (λ k. says k (character_read_back case k)) (λ k. character_read_back case k ≡ Some (Symbol k)) (all_below case)
    (λ k. (says_so k (character_read_back case k), λ e. ap (says k) e ∙ eq-eqb k k refl))
    refl (λ _. refl) 32).0 (all_32 case) v h

-- what is written reads as the symbol, from the small character that was found at a place, and its case
pub reads_as : (case : Case) (v i small byte : ℕ) → i ≡ v → (i < 32) × ((d : ℕ) → small ≡ get_or alphabet i d) → byte ≡ in_case case small → read_character byte ≡ Some (Symbol v)
reads_as case v i small byte same found b =
    let h : v < 32 = omega arith in
    let e : byte ≡ in_case case (get_or alphabet v 0) = b ∙ ap (in_case case) (found.1 0 ∙ ap (λ n. get_or alphabet n 0) same) in
    ap read_character e ∙ reads_back case v h
