use Rattle.std.proofs.Common.{◌≡◌, ℕ, zero, suc, ◌+◌, ◌*◌, ◌<◌, ◌^◌, List, [], ◌∷◌, Some, length, get_or, map, take, sym, subst, refl, ap, ◌∙◌, arith, rules}
use Rattle.std.proofs.lemmas.Fn.{serves_by}
use Rattle.std.proofs.lemmas.Iterator.{YieldsList-from_slice}
use Rattle.std.proofs.lemmas.Iterator.Consumers.{YieldsList-so_far, YieldsList-turn}
use Rattle.std.proofs.lemmas.List.{length-take, map-append}
use Rattle.std.proofs.lemmas.List.Sums.{fold_push}
use Rattle.sheet.specs.ReadingOff.{base_32_after}
use Rattle.sheet.proofs.reading_off.base_32.Goals as goal

abbrev Bytes : List ℕ → Type 0
Bytes digits = (k : ℕ) → get_or digits k 0 < 256

front_bytes : (n : ℕ) (digits : List ℕ) → Bytes digits → Bytes (take n digits)
front_bytes zero digits bytes k = omega arith
front_bytes (suc n) [] bytes k = omega arith
front_bytes (suc n) (digit ∷ digits) bytes zero = bytes 0
front_bytes (suc n) (digit ∷ digits) bytes (suc k) = front_bytes n digits (λ i. bytes (suc i)) k

-- fewer than four bytes leave room for a byte more in 32 bits
room : (digits : List ℕ) → length digits < 4 → Bytes digits → base_32_after 0 digits < 2 ^ 19
room [] h bytes = omega arith
room (a ∷ []) h bytes = omega (arith, bytes 0)
room (a ∷ b ∷ []) h bytes = omega (arith, bytes 0, bytes 1)
room (a ∷ b ∷ d ∷ []) h bytes = omega (arith, bytes 0, bytes 1, bytes 2)
room (a ∷ b ∷ d ∷ e ∷ digits) h bytes = absurd (omega arith)

pub fold-requires-clause-callable : goal.fold-requires-clause-callable
fold-requires-clause-callable c =
    let digits = c.args.digits.now in
    serves_by _ (λ xs q. q.1 ≡ base_32_after 0 (map (λ y. y.now) xs))
    (λ xs q x v j r. let step : v.1 ≡ q.1 * 32 + x.now = search rules in
    step ∙ ap (λ (n : ℕ). n * 32 + x.now) j ∙ sym (ap (base_32_after 0) (map-append (λ y. y.now) xs (x ∷ [])) ∙ fold_push _ 0 (map (λ y. y.now) xs) x.now))
    _ _ _ _ refl
    (λ xs t q x u y st j.
    let front = YieldsList-so_far (YieldsList-from_slice digits cc) xs t y in
    let here = YieldsList-turn (YieldsList-from_slice digits cc) xs t y (Some x) u x refl st in
    let small : q.1 < 2 ^ 19 = subst (λ (n : ℕ). n < 2 ^ 19) (sym (j ∙ ap (base_32_after 0) front)) (room (take (length xs) digits) (omega (arith, length-take (length xs) digits)) (front_bytes (length xs) digits (λ k. search rules))) in
    search rules)
