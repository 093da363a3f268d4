-- Symbols with their marks, read and written place by place.
use Rattle.std.proofs.Common.{◌≡◌, ℕ, zero, suc, ◌+◌, ◌<◌, ◌≤◌, Bool, true, false, List, [], ◌∷◌, ◌++◌, length, take, set, refl, ap, ◌∙◌, arith}
use Rattle.std.proofs.lemmas.List.{get_or_past, length-map, take_more_set}
use Rattle.book.specs.Book.{Book, mark, row, marks, doubted_at}
use Rattle.slip.specs.View.{place_at, places_of}

pub length_places : (vs : List ℕ) (ds : List Bool) → length vs ≡ length ds → length (places_of vs ds) ≡ length vs
length_places [] ds e = refl
length_places (v ∷ vs) [] e = absurd (omega arith)
length_places (v ∷ vs) (d ∷ ds) e = ap suc (length_places vs ds (omega arith))

places_set : (vs : List ℕ) (ds : List Bool) (i v : ℕ) (d : Bool) → places_of (set vs i v) (set ds i d) ≡ set (places_of vs ds) i (place_at v d)
places_set [] ds i v d = refl
places_set (w ∷ vs) [] zero v d = refl
places_set (w ∷ vs) [] (suc i) v d = refl
places_set (w ∷ vs) (c ∷ ds) zero v d = refl
places_set (w ∷ vs) (c ∷ ds) (suc i) v d = ap (λ b. place_at w c ∷ b) (places_set vs ds i v d)

pub places_mark : (vs : List ℕ) (ds : List Bool) (n i : ℕ) → take n (places_of vs (set ds i true)) ≡ mark i (take n (places_of vs ds))
places_mark vs ds zero i = refl
places_mark [] ds (suc n) i = refl
places_mark (v ∷ vs) [] (suc n) i = refl
places_mark (v ∷ vs) (d ∷ ds) (suc n) zero = refl
places_mark (v ∷ vs) (d ∷ ds) (suc n) (suc i) = ap (λ b. place_at v d ∷ b) (places_mark vs ds n i)

pub row_places : (vs : List ℕ) (ds : List Bool) (n : ℕ) → n ≤ length ds → row (take n (places_of vs ds)) ≡ take n vs
row_places vs ds zero h = refl
row_places [] ds (suc n) h = refl
row_places (v ∷ vs) [] (suc n) h = absurd (omega arith)
row_places (v ∷ vs) (d ∷ ds) (suc n) h = ap (λ (xs : List ℕ). v ∷ xs) (row_places vs ds n (omega arith))

pub marks_places : (vs : List ℕ) (ds : List Bool) (n : ℕ) → n ≤ length vs → marks (take n (places_of vs ds)) ≡ take n ds
marks_places vs ds zero h = refl
marks_places [] ds (suc n) h = absurd (omega arith)
marks_places (v ∷ vs) [] (suc n) h = refl
marks_places (v ∷ vs) (d ∷ ds) (suc n) h = ap (λ (xs : List Bool). d ∷ xs) (marks_places vs ds n (omega arith))

pub doubted_at_past : (b : Book) (i : ℕ) → length b ≤ i → doubted_at i b ≡ false
doubted_at_past b i h = get_or_past (marks b) i false (omega (arith, length-map b (λ p. p.doubted)))

pub places_push : (vs : List ℕ) (ds : List Bool) (n v : ℕ) (d : Bool) → length vs ≡ length ds → n < length vs
    → take (n + 1) (places_of (set vs n v) (set ds n d)) ≡ take n (places_of vs ds) ++ place_at v d ∷ []
places_push vs ds n v d e h =
    let l = length_places vs ds e in
    ap (take (n + 1)) (places_set vs ds n v d) ∙ take_more_set (places_of vs ds) n (place_at v d) (omega arith)
