-- A code over a field, and the same code by the numbers of its symbols.
--   in_elements   a book with the element that each symbol stands for
--   rows_lawful   what is asked of a code's rows holds of every lawful code
--   near_elements a row near by numbers is near by elements
--   rows_sealed   the seal of a row, by numbers
use Rattle.std.specs.List.{AllByRecursion, list_all}
use Rattle.std.proofs.Common.{◌≡◌, ℕ, ◌<◌, ◌≤◌, true, not, ◌&&◌, eqb, ltb, List, [], ◌∷◌, ◌++◌, map, length, sym, refl, ap, ◌∙◌, subst, ap₂, arith}
use native.Mathlib.Decide.{ℕ_discrete}
use lib.ListN.{length-map}
use Rattle.std.proofs.lemmas.List.{map-append}
use Rattle.std.proofs.lemmas.Bool.{and_from, and_parts, eq-eqb, eqb-true, lt-ltb, ltb-true}
use Rattle.algebra.specs.Code.{Code, bound, checks, residue, seal, IsSoundRow, IsLawfulCode}
use Rattle.algebra.specs.Field.{FieldOn, IsEmbedding, Enumeration}
use Rattle.algebra.specs.Rows as rows
use Rattle.algebra.specs.Rows.{count_true, different_places, doubted_places, is_other, symbols, wrong_places, IsNearRow, BookOf, hamming_distance}
use Rattle.algebra.proofs.Decided.{is_no}
use Rattle.algebra.proofs.Distance.{differ_none, few_differ}
use Rattle.algebra.proofs.Members.{all_append, all_right}
use Rattle.algebra.proofs.Sealing.{length_seal, seal_only, sealed_sound}
use Rattle.algebra.proofs.Solver.{◌:-◌, v0, v1, solve}
use Rattle.book.specs.Book.{Book, marks, row}
use Rattle.algebra.specs.NumericCode.{NumericCode, is_same_list, numeric_code}
use Rattle.book.specs.Codes.{IsLawful, IsNear, IsSeal, IsSound}

pub all_below_all : (size : ℕ) (n : List ℕ) → list_all (λ v. ltb v size) n ≡ true → AllByRecursion (λ v. v < size) n
all_below_all size [] h = tt
all_below_all size (v ∷ n) h = let both = and_parts (ltb v size) (list_all (λ v. ltb v size) n) h in (ltb-true v size both.0, all_below_all size n both.1)

all_all_below : (size : ℕ) (n : List ℕ) → AllByRecursion (λ v. v < size) n → list_all (λ v. ltb v size) n ≡ true
all_all_below size [] h = refl
all_all_below size (v ∷ n) h = and_from (ltb v size) (list_all (λ v. ltb v size) n) (lt-ltb v size h.0) (all_all_below size n h.1)

module _ {S : Type 0} (dec_eq : (x y : S) → Dec (x ≡ y)) where
  alike_one : (xs ys : List S) → is_same_list dec_eq xs ys ≡ true → xs ≡ ys
  alike_one xs ys h =
      let both = and_parts (eqb (length xs) (length ys)) (eqb (hamming_distance dec_eq xs ys) 0) h in
      differ_none dec_eq xs ys (eqb-true _ _ both.0) (eqb-true _ _ both.1)

  nowhere_other : (xs : List S) → hamming_distance dec_eq xs xs ≡ 0
  nowhere_other [] = refl
  nowhere_other (x ∷ xs) = by (dec_eq x x) (nowhere_other xs)
    where
      by : (q : Dec (x ≡ x)) → hamming_distance dec_eq xs xs ≡ 0 → count_true (is_no q ∷ different_places dec_eq xs xs) ≡ 0
      by (yes q) h = h
      by (no q) h = absurd (q refl)

  one_alike : (xs : List S) → is_same_list dec_eq xs xs ≡ true
  one_alike xs = and_from (eqb (length xs) (length xs)) (eqb (hamming_distance dec_eq xs xs) 0) (eq-eqb _ _ refl) (eq-eqb _ _ (nowhere_other xs))

module _ {S : Type 0} (N : Enumeration S) where
  abbrev pub elements : List ℕ → List S
  elements n = map N.element n

  abbrev pub Below : List ℕ → Type 0
  Below n = AllByRecursion (λ v. v < N.size) n

  abbrev pub in_elements : Book → BookOf S
  in_elements b = map (λ a. record { symbol = N.element a.symbol; doubted = a.doubted }) b

  pub length_elements : (b : Book) → length (in_elements b) ≡ length b
  length_elements b = length-map b (λ a. record { symbol = N.element a.symbol; doubted = a.doubted })

  pub row_elements : (b : Book) → symbols (in_elements b) ≡ elements (row b)
  row_elements [] = refl
  row_elements (a ∷ b) = ap (λ t. N.element a.symbol ∷ t) (row_elements b)

  pub marks_elements : (b : Book) → doubted_places (in_elements b) ≡ marks b
  marks_elements [] = refl
  marks_elements (a ∷ b) = ap (λ t. a.doubted ∷ t) (marks_elements b)

  pub doubts_elements : (b : Book) → rows.doubts (in_elements b) ≡ rows.doubts b
  doubts_elements b = ap count_true (marks_elements b)

  pub numbers_elements : (n : List ℕ) → Below n → map N.number (elements n) ≡ n
  numbers_elements [] h = refl
  numbers_elements (v ∷ n) h = ap₂ ◌∷◌ (N.number_element v h.0) (numbers_elements n h.1)

  pub elements_numbers : (xs : List S) → elements (map N.number xs) ≡ xs
  elements_numbers [] = refl
  elements_numbers (x ∷ xs) = ap₂ ◌∷◌ (N.element_number x) (elements_numbers xs)

  pub numbers_below : (xs : List S) → Below (map N.number xs)
  numbers_below [] = tt
  numbers_below (x ∷ xs) = (N.below x, numbers_below xs)

  pub element_one : (x y : ℕ) → x < N.size → y < N.size → N.element x ≡ N.element y → x ≡ y
  element_one x y h k e = sym (N.number_element x h) ∙ ap N.number e ∙ N.number_element y k

  pub elements_one : (v w : List ℕ) → Below v → Below w → elements v ≡ elements w → v ≡ w
  elements_one v w h k e = sym (numbers_elements v h) ∙ ap (map N.number) e ∙ numbers_elements w k

  module _ (dec_eq : (x y : S) → Dec (x ≡ y)) where
    pub other_elements : (x y : ℕ) → x < N.size → y < N.size → is_other ℕ_discrete x y ≡ is_other dec_eq (N.element x) (N.element y)
    other_elements x y h k = by (ℕ_discrete x y) (dec_eq (N.element x) (N.element y))
      where
        by : (p : Dec (x ≡ y)) (q : Dec (N.element x ≡ N.element y)) → is_no p ≡ is_no q
        by (yes p) (yes q) = refl
        by (yes p) (no q) = absurd (q (ap N.element p))
        by (no p) (yes q) = absurd (p (element_one x y h k q))
        by (no p) (no q) = refl

    pub differing_elements : (v w : List ℕ) → Below v → Below w → different_places ℕ_discrete v w ≡ different_places dec_eq (elements v) (elements w)
    differing_elements [] w h k = refl
    differing_elements (x ∷ v) [] h k = refl
    differing_elements (x ∷ v) (y ∷ w) h k = ap₂ ◌∷◌ (other_elements x y h.0 k.0) (differing_elements v w h.1 k.1)

    pub wrong_elements : (b : Book) (n : List ℕ) → Below (row b) → Below n → wrong_places ℕ_discrete b n ≡ wrong_places dec_eq (in_elements b) (elements n)
    wrong_elements [] n h k = refl
    wrong_elements (a ∷ b) [] h k = refl
    wrong_elements (a ∷ b) (v ∷ n) h k =
        ap₂ ◌∷◌ (ap (λ t. not a.doubted && t) (other_elements a.symbol v h.0 k.0)) (wrong_elements b n h.1 k.1)

module _ {S E : Type 0} (N : Enumeration S) (s : FieldOn S) (C : Code S E) where
  pub sound_below : (n : List ℕ) → IsSound (numeric_code N s C) n → Below N n
  sound_below n h = all_below_all N.size n (and_parts (list_all (λ v. ltb v N.size) n) (is_same_list s.dec_eq (residue s C (elements N n)) C.target) h).0

  pub sound_elements : (n : List ℕ) → IsSound (numeric_code N s C) n → IsSoundRow s C (elements N n)
  sound_elements n h = alike_one s.dec_eq (residue s C (elements N n)) C.target (and_parts (list_all (λ v. ltb v N.size) n) (is_same_list s.dec_eq (residue s C (elements N n)) C.target) h).1

  pub elements_sound : (n : List ℕ) → Below N n → IsSoundRow s C (elements N n) → IsSound (numeric_code N s C) n
  elements_sound n h k =
      and_from (list_all (λ v. ltb v N.size) n) (is_same_list s.dec_eq (residue s C (elements N n)) C.target)
      (all_all_below N.size n h) (ap (λ t. is_same_list s.dec_eq t C.target) k ∙ one_alike s.dec_eq C.target)

  pub near_elements : (b : Book) (n : List ℕ) → Below N (row b) → IsNear (numeric_code N s C) b n → IsNearRow s C (in_elements N b) (elements N n)
  near_elements b n h near =
      let counted : rows.errors ℕ_discrete b n ≡ rows.errors s.dec_eq (in_elements N b) (elements N n) = ap count_true (wrong_elements N s.dec_eq b n h (sound_below n near.sound)) in
      let doubted = doubts_elements N b in
      let few = near.close in
      record {
        sound = sound_elements n near.sound;
        same_length = length-map n N.element ∙ near.same_length ∙ sym (length_elements N b);
        close = omega arith;
      }

  module _ (target_length : length C.target ≡ checks C) where
    -- a seal by numbers is the seal of the elements
    seal_elements : (r cs : List ℕ) → IsSeal (numeric_code N s C) r cs → elements N cs ≡ seal s C (elements N r)
    seal_elements r cs h =
        seal_only s C target_length (elements N r) (elements N cs) (length-map cs N.element ∙ h.as_many)
        (ap (residue s C) (sym (map-append N.element r cs)) ∙ sound_elements (r ++ cs) h.sound)

    one_seal : (r cs ds : List ℕ) → IsSeal (numeric_code N s C) r cs → IsSeal (numeric_code N s C) r ds → cs ≡ ds
    one_seal r cs ds h k =
        elements_one N cs ds (all_right (λ v. v < N.size) r cs (sound_below (r ++ cs) h.sound)) (all_right (λ v. v < N.size) r ds (sound_below (r ++ ds) k.sound))
        (seal_elements r cs h ∙ sym (seal_elements r ds k))

    pub rows_sealed_by : (r : List ℕ) → Below N r → IsSeal (numeric_code N s C) r (map N.number (seal s C (elements N r)))
    rows_sealed_by r h =
        let cs = seal s C (elements N r) in
        record {
          as_many = length-map cs N.number ∙ length_seal s C target_length (elements N r);
          sound = elements_sound (r ++ map N.number cs) (all_append (λ v. v < N.size) r (map N.number cs) h (numbers_below N cs))
              (ap (residue s C) (map-append N.element r (map N.number cs) ∙ ap (λ t. elements N r ++ t) (elements_numbers N cs)) ∙ sealed_sound s C target_length (elements N r));
        }

  sub_back : (x y : ℕ) → x < N.size → y < N.size → (numeric_code N s C).sub x ((numeric_code N s C).sub x y) ≡ y
  sub_back x y h k =
      let u = N.element x in
      let v = N.element y in
      ap (λ t. N.number (s.add u (s.neg t))) (N.element_number (s.add u (s.neg v)))
      ∙ ap N.number (solve s (u ∷ v ∷ []) (v0 :- (v0 :- v1)) v1 refl)
      ∙ N.number_element y k

module _ {S E : Type 0} (N : Enumeration S) (s : FieldOn S) (e : FieldOn E) (up : S → E) (L : IsEmbedding s e up) (C : Code S E) (lawful : IsLawfulCode s e up C) where
  pub rows_sealed : (rows_C : NumericCode) → rows_C ≡ numeric_code N s C → (r : List ℕ) → Below N r → IsSeal rows_C r (map N.number (seal s C (elements N r)))
  rows_sealed rows_C is r h = subst (λ k. IsSeal k r (map N.number (seal s C (elements N r)))) (sym is) (rows_sealed_by N s C lawful.target_length r h)

  rows_of_lawful : N.size ≡ 32 → IsLawful (numeric_code N s C)
  rows_of_lawful alphabet = record {
    alphabet = alphabet;
    bound_small = lawful.bound_small;
    apart = apart;
    one_seal = one_seal N s C lawful.target_length;
    symbols = sound_below N s C;
    sub_below = λ x y. N.below (s.add (N.element x) (s.neg (N.element y)));
    sub_back = sub_back N s C;
    sub_itself = λ x. ap N.number (s.add_neg (N.element x));
  }
    where
      apart : (v w : List ℕ) → IsSound (numeric_code N s C) v → IsSound (numeric_code N s C) w → length v ≡ length w → length v ≤ C.limit
          → hamming_distance ℕ_discrete v w ≤ bound C → v ≡ w
      apart v w hv hw same short few =
          let lv = length-map v N.element in
          let lw = length-map w N.element in
          let bv = sound_below N s C v hv in
          let bw = sound_below N s C w hw in
          let counted : hamming_distance ℕ_discrete v w ≡ hamming_distance s.dec_eq (elements N v) (elements N w) = ap count_true (differing_elements N s.dec_eq v w bv bw) in
          elements_one N v w bv bw (few_differ s e up L C lawful (elements N v) (elements N w) (sound_elements N s C v hv) (sound_elements N s C w hw) (lv ∙ same ∙ sym lw) (omega arith) (omega arith))

  pub rows_lawful : (rows_C : NumericCode) → rows_C ≡ numeric_code N s C → N.size ≡ 32 → IsLawful rows_C
  rows_lawful rows_C is alphabet = subst IsLawful (sym is) (rows_of_lawful alphabet)
