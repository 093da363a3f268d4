-- Subtracting the listed changes from a book's row leaves the row that they lead to.
use Rattle.std.specs.List.{AllByRecursion}
use Rattle.std.proofs.Common.{◌≡◌, ℕ, zero, suc, ◌+◌, ◌-◌, ◌<◌, Bool, true, false, cond, not, ◌&&◌, List, [], ◌∷◌, ◌++◌, length, get_or, take, drop, set, sym, refl, ap, ◌∙◌, ap₂, append_assoc, append-nil, arith}
use native.Mathlib.Decide.{ℕ_discrete}
use Rattle.std.proofs.lemmas.List.{get_or_at, set_at, length-map, length_push, length-take-le, take-append-drop}
use Rattle.std.proofs.lemmas.Bool.{both_ways}
use Rattle.algebra.proofs.Decided.{is_no}
use Rattle.book.specs.Book.{Place, Book, row}
use Rattle.algebra.specs.NumericCode.{NumericCode}
use Rattle.book.specs.Codes.{IsLawful, IsNear}
use Rattle.book.specs.Mending.{is_doubtful, is_wrong_number, changes_where, changes, row_less}
use Rattle.book.specs.declared.record.Record.{Record}

-- xs, with n at the places that are wanted
abbrev mixed : (Place → ℕ → Bool) → Book → List ℕ → List ℕ → List ℕ
mixed want [] n xs = xs
mixed want (a ∷ b) [] xs = xs
mixed want (a ∷ b) (v ∷ n) [] = []
mixed want (a ∷ b) (v ∷ n) (x ∷ xs) = cond (want a v) v x ∷ mixed want b n xs

-- xs is still the book's row at the places that are wanted
abbrev Agrees : (Place → ℕ → Bool) → Book → List ℕ → List ℕ → Type 0
Agrees want [] n xs = Unit
Agrees want (a ∷ b) [] xs = Unit
Agrees want (a ∷ b) (v ∷ n) [] = ⊥
Agrees want (a ∷ b) (v ∷ n) (x ∷ xs) = (want a v ≡ true → x ≡ a.symbol) × Agrees want b n xs

agrees_row : (b : Book) (n : List ℕ) → Agrees is_doubtful b n (row b)
agrees_row [] n = tt
agrees_row (a ∷ b) [] = tt
agrees_row (a ∷ b) (v ∷ n) = (λ q. refl, agrees_row b n)

agrees_wrong : (b : Book) (n : List ℕ) → Agrees is_wrong_number b n (mixed is_doubtful b n (row b))
agrees_wrong [] n = tt
agrees_wrong (a ∷ b) [] = tt
agrees_wrong (a ∷ b) (v ∷ n) = (by a.doubted (is_no (ℕ_discrete a.symbol v)), agrees_wrong b n)
  where
    by : (d e : Bool) → (not d && e) ≡ true → cond d v a.symbol ≡ a.symbol
    by true e q = absurd (both_ways false refl q)
    by false e q = refl

all_mixed : (b : Book) (n : List ℕ) → length n ≡ length b → mixed is_wrong_number b n (mixed is_doubtful b n (row b)) ≡ n
all_mixed [] [] l = refl
all_mixed [] (v ∷ n) l = absurd (omega arith)
all_mixed (a ∷ b) [] l = absurd (omega arith)
all_mixed (a ∷ b) (v ∷ n) l = ap₂ ◌∷◌ (by a.doubted (ℕ_discrete a.symbol v)) (all_mixed b n (omega arith))
  where
    by : (d : Bool) (e : Dec (a.symbol ≡ v)) → cond (not d && is_no e) v (cond d v a.symbol) ≡ v
    by true e = refl
    by false (yes q) = q
    by false (no q) = refl

module _ (want : Place → ℕ → Bool) where
  mixed_nil : (b : Book) (n : List ℕ) → mixed want b n [] ≡ []
  mixed_nil [] n = refl
  mixed_nil (a ∷ b) [] = refl
  mixed_nil (a ∷ b) (v ∷ n) = refl

  mixed_split : (k : ℕ) (b : Book) (n xs : List ℕ) → mixed want (take k b) (take k n) (take k xs) ++ mixed want (drop k b) (drop k n) (drop k xs) ≡ mixed want b n xs
  mixed_split zero b n xs = refl
  mixed_split (suc k) [] n xs = take-append-drop (suc k) xs
  mixed_split (suc k) (a ∷ b) [] xs = ap (λ t. take (suc k) xs ++ t) (by (drop k b)) ∙ take-append-drop (suc k) xs
    where
      by : (d : Book) → mixed want d [] (drop (suc k) xs) ≡ drop (suc k) xs
      by [] = refl
      by (x ∷ d) = refl
  mixed_split (suc k) (a ∷ b) (v ∷ n) [] = mixed_nil (drop k b) (drop k n)
  mixed_split (suc k) (a ∷ b) (v ∷ n) (x ∷ xs) = ap (λ t. cond (want a v) v x ∷ t) (mixed_split k b n xs)

  mixed_length : (b : Book) (n xs : List ℕ) → length (mixed want b n xs) ≡ length xs
  mixed_length [] n xs = refl
  mixed_length (a ∷ b) [] xs = refl
  mixed_length (a ∷ b) (v ∷ n) [] = refl
  mixed_length (a ∷ b) (v ∷ n) (x ∷ xs) = ap suc (mixed_length b n xs)

  agrees_take : (k : ℕ) (b : Book) (n xs : List ℕ) → Agrees want b n xs → Agrees want (take k b) (take k n) (take k xs)
  agrees_take zero b n xs g = tt
  agrees_take (suc k) [] n xs g = tt
  agrees_take (suc k) (a ∷ b) [] xs g = tt
  agrees_take (suc k) (a ∷ b) (v ∷ n) [] g = g
  agrees_take (suc k) (a ∷ b) (v ∷ n) (x ∷ xs) g = (g.0, agrees_take k b n xs g.1)

  agrees_drop : (k : ℕ) (b : Book) (n xs : List ℕ) → Agrees want b n xs → Agrees want (drop k b) (drop k n) (drop k xs)
  agrees_drop zero b n xs g = g
  agrees_drop (suc k) [] n xs g = tt
  agrees_drop (suc k) (a ∷ b) [] xs g = by (drop k b)
    where
      by : (d : Book) → Agrees want d [] (drop (suc k) xs)
      by [] = tt
      by (x ∷ d) = tt
  agrees_drop (suc k) (a ∷ b) (v ∷ n) [] g = absurd g
  agrees_drop (suc k) (a ∷ b) (v ∷ n) (x ∷ xs) g = agrees_drop k b n xs g.1

module _ (C : NumericCode) where
  -- each symbol less its change is the symbol that was meant
  abbrev Backed : Book → List ℕ → Type 0
  Backed [] n = Unit {0}
  Backed (a ∷ b) [] = Unit {0}
  Backed (a ∷ b) (v ∷ n) = (C.sub a.symbol (C.sub a.symbol v) ≡ v) × Backed b n

  backed_symbols : IsLawful C → (b : Book) (n : List ℕ) → AllByRecursion (λ v. v < C.size) (row b) → AllByRecursion (λ v. v < C.size) n → Backed b n
  backed_symbols law [] n s t = tt
  backed_symbols law (a ∷ b) [] s t = tt
  backed_symbols law (a ∷ b) (v ∷ n) s t = (law.sub_back a.symbol v s.0 t.0, backed_symbols law b n s.1 t.1)

  backed_take : (k : ℕ) (b : Book) (n : List ℕ) → Backed b n → Backed (take k b) (take k n)
  backed_take zero b n s = tt
  backed_take (suc k) [] n s = tt
  backed_take (suc k) (a ∷ b) [] s = tt
  backed_take (suc k) (a ∷ b) (v ∷ n) s = (s.0, backed_take k b n s.1)

  backed_drop : (k : ℕ) (b : Book) (n : List ℕ) → Backed b n → Backed (drop k b) (drop k n)
  backed_drop zero b n s = s
  backed_drop (suc k) [] n s = tt
  backed_drop (suc k) (a ∷ b) [] s = by (drop k b)
    where
      by : (d : Book) → Backed d []
      by [] = tt
      by (x ∷ d) = tt
  backed_drop (suc k) (a ∷ b) (v ∷ n) s = backed_drop k b n s.1

  pub subtracted_append : (cs ds : List Record) (xs : List ℕ) → row_less C (cs ++ ds) xs ≡ row_less C ds (row_less C cs xs)
  subtracted_append [] ds xs = refl
  subtracted_append (c ∷ cs) ds xs = subtracted_append cs ds (set xs c.place (C.sub (get_or xs c.place 0) c.change))

  module _ (want : Place → ℕ → Bool) where
    off_at : (b : Book) (n pre xs post : List ℕ) → Backed b n → Agrees want b n xs
        → row_less C (changes_where want C (length pre) b n) (pre ++ (xs ++ post)) ≡ pre ++ (mixed want b n xs ++ post)
    off_at [] n pre xs post s g = refl
    off_at (a ∷ b) [] pre xs post s g = refl
    off_at (a ∷ b) (v ∷ n) pre [] post s g = absurd g
    off_at (a ∷ b) (v ∷ n) pre (x ∷ xs) post s g = by (want a v) g.0 (λ p. off_at b n p xs post s.1 g.1)
      where
        next : (y : ℕ) → ((p : List ℕ) → row_less C (changes_where want C (length p) b n) (p ++ (xs ++ post)) ≡ p ++ (mixed want b n xs ++ post)) → row_less C (changes_where want C (length pre + 1) b n) (pre ++ y ∷ (xs ++ post)) ≡ pre ++ y ∷ (mixed want b n xs ++ post)
        next y again =
            ap₂ (λ i zs. row_less C (changes_where want C i b n) zs) (sym (length_push pre y)) (sym (append_assoc pre (y ∷ []) (xs ++ post)))
            ∙ (again (pre ++ y ∷ []) ∙ append_assoc pre (y ∷ []) (mixed want b n xs ++ post))

        put : x ≡ a.symbol → set (pre ++ x ∷ (xs ++ post)) (length pre) (C.sub (get_or (pre ++ x ∷ (xs ++ post)) (length pre) 0) (C.sub a.symbol v)) ≡ pre ++ v ∷ (xs ++ post)
        put q =
            set_at pre x (xs ++ post) _ (length pre) refl
            ∙ ap (λ y. pre ++ y ∷ (xs ++ post)) (ap (λ z. C.sub z (C.sub a.symbol v)) (get_or_at pre x (xs ++ post) 0 (length pre) refl ∙ q) ∙ s.0)

        by : (t : Bool) → (t ≡ true → x ≡ a.symbol) → ((p : List ℕ) → row_less C (changes_where want C (length p) b n) (p ++ (xs ++ post)) ≡ p ++ (mixed want b n xs ++ post))
            → row_less C (cond t (record { place = length pre; change = C.sub a.symbol v } ∷ changes_where want C (length pre + 1) b n) (changes_where want C (length pre + 1) b n)) (pre ++ x ∷ (xs ++ post))
            ≡ pre ++ cond t v x ∷ (mixed want b n xs ++ post)
        by true q again = ap (row_less C (changes_where want C (length pre + 1) b n)) (put (q refl)) ∙ next v again
        by false q again = next x again

  -- the changes make the book's row n
  changes_make : (b : Book) (n : List ℕ) → length n ≡ length b → Backed b n → row_less C (changes C b n) (row b) ≡ n
  changes_make b n l s =
      let k = length b - 1 in
      let m = mixed is_doubtful b n (row b) in
      let e = mixed is_wrong_number (drop k b) (drop k n) (drop k m) in
      let one : row_less C (changes_where is_doubtful C 0 b n) (row b) ≡ m =
      ap (row_less C (changes_where is_doubtful C 0 b n)) (sym (append-nil (row b))) ∙ (off_at is_doubtful b n [] (row b) [] s (agrees_row b n) ∙ append-nil m) in
      let size : length (take k m) ≡ k = length-take-le k m (omega (arith, mixed_length is_doubtful b n (row b), length-map b (λ a. a.symbol))) in
      let two : row_less C (changes_where is_wrong_number C k (drop k b) (drop k n)) m ≡ take k m ++ e =
      ap₂ (λ i zs. row_less C (changes_where is_wrong_number C i (drop k b) (drop k n)) zs) (sym size) (sym (take-append-drop k m) ∙ ap (λ t. take k m ++ t) (sym (append-nil (drop k m))))
      ∙ (off_at is_wrong_number (drop k b) (drop k n) (take k m) (drop k m) [] (backed_drop k b n s) (agrees_drop is_wrong_number k b n m (agrees_wrong b n)) ∙ ap (λ t. take k m ++ t) (append-nil e)) in
      let three : row_less C (changes_where is_wrong_number C 0 (take k b) (take k n)) (take k m ++ e) ≡ mixed is_wrong_number (take k b) (take k n) (take k m) ++ e =
      off_at is_wrong_number (take k b) (take k n) [] (take k m) e (backed_take k b n s) (agrees_take is_wrong_number k b n m (agrees_wrong b n)) in
      subtracted_append (changes_where is_doubtful C 0 b n) _ (row b)
      ∙ (ap (row_less C (changes_where is_wrong_number C k (drop k b) (drop k n) ++ changes_where is_wrong_number C 0 (take k b) (take k n))) one
      ∙ (subtracted_append (changes_where is_wrong_number C k (drop k b) (drop k n)) _ m
      ∙ (ap (row_less C (changes_where is_wrong_number C 0 (take k b) (take k n))) two
      ∙ (three ∙ (mixed_split is_wrong_number k b n m ∙ all_mixed b n l)))))

  pub changes_subtracted : IsLawful C → (b : Book) (n : List ℕ) → AllByRecursion (λ v. v < C.size) (row b) → IsNear C b n → row_less C (changes C b n) (row b) ≡ n
  changes_subtracted law b n below near = changes_make b n near.same_length (backed_symbols law b n below (law.symbols n near.sound))
