-- The steps by which items are written with commas between.
use Rattle.std.proofs.Common.{◌≡◌, ℕ, ◌+◌, ◌<◌, ◌≤◌, List, [], ◌∷◌, ◌++◌, length, get_or, take, Option, Some, None, IfSome, refl, sym, append-nil, decimal}
use Rattle.std.proofs.Output.{then_text_assoc}
use Rattle.std.specs.Fmt.{◌++?◌}
use Rattle.std.proofs.lemmas.List.{take_more, take_all}
use Rattle.replay.specs.Elements.{after_commas, commas_before, decimal_list, with_commas}

nothing_round : (text : Option (List ℕ)) → text ++? Some [] ≡ Some [] ++? text
nothing_round None = refl
nothing_round (Some bytes) = rw (append-nil bytes) refl

commas-append : {A : Type 0} (output : A → Option (List ℕ)) (xs : List A) (x : A)
    → commas_before output (xs ++ x ∷ []) ≡ commas_before output xs ++? (Some (44 ∷ []) ++? output x)
commas-append output [] x = nothing_round (Some (44 ∷ []) ++? output x)
commas-append output (y ∷ ys) x =
    rw (commas-append output ys x) (sym (then_text_assoc (Some (44 ∷ []) ++? output y) (commas_before output ys) (Some (44 ∷ []) ++? output x)))

pub commas_more : {A : Type 0} (output : A → Option (List ℕ)) (xs : List A) (i : ℕ) (x : A) → i < length xs → x ≡ get_or xs i x
    → commas_before output (take (i + 1) xs) ≡ commas_before output (take i xs) ++? (Some (44 ∷ []) ++? output x)
commas_more output xs i x below e = rw (take_more xs i x below, ← e) (commas-append output (take i xs) x)

pub commas_all : {A : Type 0} (output : A → Option (List ℕ)) (xs : List A) (i : ℕ) → length xs ≤ i → commas_before output (take i xs) ≡ commas_before output xs
commas_all output xs i past = rw (take_all i xs past) refl

commas_before_numbers : (numbers : List ℕ) → commas_before (λ n. Some (decimal n)) numbers ≡ Some (after_commas numbers)
commas_before_numbers [] = refl
commas_before_numbers (n ∷ ns) = rw (commas_before_numbers ns) refl

-- numbers print as a list of numbers
numbers_listed : (numbers : List ℕ) → with_commas (λ n. Some (decimal n)) numbers ≡ Some (decimal_list numbers)
numbers_listed [] = refl
numbers_listed (n ∷ ns) = rw (commas_before_numbers ns) refl

pub printed_numbers : (text numbers : List ℕ) → IfSome (with_commas (λ n. Some (decimal n)) numbers) (λ bytes. text ≡ bytes) → text ≡ decimal_list numbers
printed_numbers text numbers printed = rw (numbers_listed numbers) at printed
