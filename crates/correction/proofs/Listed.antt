-- What decoding finds, as records: the doubted positions, and then those of the roots, give the changes of a near
-- book in the order in which they are listed.
--   record_at       the record of a position: its place, and the number of the change there
--   Right           a position that decoding answers rightly
--   listed_changes  the records of all positions are the changes to the near row
use Rattle.std.specs.List.{AllByRecursion}
use Rattle.std.proofs.Common.{◌≡◌, ℕ, zero, suc, ◌+◌, ◌-◌, ◌<◌, ◌≤◌, Bool, true, false, cond, List, [], ◌∷◌, ◌++◌, map, length, get_or, take, drop, Some, Option, sym, refl, ap, ◌∙◌, subst, ap₂, arith}
use native.Mathlib.Decide.{ℕ_discrete}
use lib.ListN.{length-map}
use Rattle.std.proofs.lemmas.List.{drop-map, get_or-drop, get_or-map, get_or-take, length-drop, length-take-le, map-append, take-map}
use Rattle.algebra.specs.Code.{Code, IsLawfulCode}
use Rattle.algebra.specs.Decode.{root_position}
use Rattle.algebra.specs.Field.{Drops, FieldOn, HasOrder, IsEmbedding, Enumeration}
use Rattle.algebra.specs.Poly.{coeff}
use Rattle.algebra.specs.Rows.{change_symbol, doubted_places, doubted_positions, error_positions, found_change, found_locator, found_slope, positions, wrong_places, IsNearRow, BookOf}
use Rattle.algebra.specs.Series.{Mem}
use Rattle.algebra.proofs.Changes.{length_wrong}
use Rattle.algebra.proofs.Flags.{positions_below}
use Rattle.algebra.proofs.Members.{all_append, all_at, all_from, all_left, all_right}
use Rattle.algebra.proofs.Mended.{mends}
use Rattle.algebra.proofs.Places.{change_of_place}
use Rattle.lists.specs.Roots.{roots}
use Rattle.book.specs.Book.{Book, Place, marks, row}
use Rattle.algebra.specs.NumericCode.{NumericCode, numeric_code}
use Rattle.book.specs.Codes.{IsNear}
use Rattle.book.specs.Mending.{changes, changes_where, is_doubtful, is_wrong_number}
use Rattle.book.specs.declared.record.Record.{Record}
use Rattle.book.proofs.Numbers.{Below, elements, in_elements, length_elements, marks_elements, near_elements, row_elements, sound_below, wrong_elements}
use Rattle.correction.proofs.RootPositions.{all_zero_first, near_root_positions, others, others_positions, zero_first, zeros, zeros_positions}

module _ (want : Place → ℕ → Bool) where
  -- which places are wanted
  abbrev flags : Book → List ℕ → List Bool
  flags [] n = []
  flags (a ∷ b) [] = []
  flags (a ∷ b) (v ∷ n) = want a v ∷ flags b n

  length_flags : (b : Book) (n : List ℕ) → length n ≡ length b → length (flags b n) ≡ length b
  length_flags [] n h = refl
  length_flags (a ∷ b) [] h = absurd (omega arith)
  length_flags (a ∷ b) (v ∷ n) h = ap suc (length_flags b n (omega arith))

  flags_take : (m : ℕ) (b : Book) (n : List ℕ) → flags (take m b) (take m n) ≡ take m (flags b n)
  flags_take zero b n = refl
  flags_take (suc m) [] n = refl
  flags_take (suc m) (a ∷ b) [] = refl
  flags_take (suc m) (a ∷ b) (v ∷ n) = ap (λ t. want a v ∷ t) (flags_take m b n)

  flags_drop : (m : ℕ) (b : Book) (n : List ℕ) → length n ≡ length b → flags (drop m b) (drop m n) ≡ drop m (flags b n)
  flags_drop zero b n h = refl
  flags_drop (suc m) [] n h = refl
  flags_drop (suc m) (a ∷ b) [] h = absurd (omega arith)
  flags_drop (suc m) (a ∷ b) (v ∷ n) h = flags_drop m b n (omega arith)

  -- the changes at the wanted places are those at their positions, Y being the changes by position
  module _ (C : NumericCode) (Y : ℕ → ℕ) (long : ℕ) where
    abbrev at : ℕ → Record
    at p = record { place = long - 1 - p; change = Y p }

    changes_by_position : (i : ℕ) (b : Book) (n : List ℕ) → i + length b ≡ long → length n ≡ length b
        → ((k : ℕ) → k < length b → C.sub (get_or (row b) k 0) (get_or n k 0) ≡ Y (length b - 1 - k)) → changes_where want C i b n ≡ map at (positions (flags b n))
    changes_by_position i [] n h same values = refl
    changes_by_position i (a ∷ b) [] h same values = absurd (omega arith)
    changes_by_position i (a ∷ b) (v ∷ n) h same values =
        by (want a v) (changes_by_position (i + 1) b n (omega arith) (omega arith) (λ k l. values (suc k) (omega arith) ∙ ap Y (shorter k)))
      where
        shorter : (k : ℕ) → length (a ∷ b) - 1 - suc k ≡ length b - 1 - k
        shorter k = omega arith

        first : record { place = i; change = C.sub a.symbol v } ≡ at (length (flags b n))
        first =
            let l = length_flags b n (omega arith) in
            let place : i ≡ long - 1 - length (flags b n) = omega arith in
            let last : length (a ∷ b) - 1 - 0 ≡ length (flags b n) = omega arith in
            ap₂ (λ (p c : ℕ). record { place = p; change = c }) place (values 0 (omega arith) ∙ ap Y last)

        by : (t : Bool) → changes_where want C (i + 1) b n ≡ map at (positions (flags b n))
            → cond t (record { place = i; change = C.sub a.symbol v } ∷ changes_where want C (i + 1) b n) (changes_where want C (i + 1) b n) ≡ map at (positions (t ∷ flags b n))
        by true ih = ap₂ ◌∷◌ first ih
        by false ih = ih

flags_marks : (b : Book) (n : List ℕ) → length n ≡ length b → flags is_doubtful b n ≡ marks b
flags_marks [] n h = refl
flags_marks (a ∷ b) [] h = absurd (omega arith)
flags_marks (a ∷ b) (v ∷ n) h = ap (λ t. a.doubted ∷ t) (flags_marks b n (omega arith))

flags_wrong : (b : Book) (n : List ℕ) → flags is_wrong_number b n ≡ wrong_places ℕ_discrete b n
flags_wrong [] n = refl
flags_wrong (a ∷ b) [] = refl
flags_wrong (a ∷ b) (v ∷ n) = ap (λ t. is_wrong_number a v ∷ t) (flags_wrong b n)

map_later : {A : Type 0} (f g : ℕ → A) → ((p : ℕ) → f p ≡ g (suc p)) → (ps : List ℕ) → map f ps ≡ map g (map suc ps)
map_later f g h [] = refl
map_later f g h (p ∷ ps) = ap₂ ◌∷◌ (h p) (map_later f g h ps)

-- the changes of a book: at the doubted positions, and then at the others, position 0 first
module _ (C : NumericCode) (Y : ℕ → ℕ) (b : Book) (n : List ℕ) (same : length n ≡ length b)
    (values : (k : ℕ) → k < length b → C.sub (get_or (row b) k 0) (get_or n k 0) ≡ Y (length b - 1 - k)) where
  abbrev placed : ℕ → Record
  placed p = record { place = length b - 1 - p; change = Y p }

  last_changes : changes_where is_wrong_number C (length b - 1) (drop (length b - 1) b) (drop (length b - 1) n) ≡ map placed (zeros (positions (flags is_wrong_number b n)))
  last_changes =
      let last = length b - 1 in
      let l = length-drop last b in
      let m = length-drop last n in
      let f = length_flags is_wrong_number b n same in
      changes_by_position is_wrong_number C Y (length b) last (drop last b) (drop last n) (omega arith) (omega arith) read
      ∙ ap (λ fs. map placed (positions fs)) (flags_drop is_wrong_number last b n same ∙ ap (λ k. drop (k - 1) (flags is_wrong_number b n)) (sym f))
      ∙ ap (map placed) (sym (zeros_positions (flags is_wrong_number b n)))
    where
      read : (k : ℕ) → k < length (drop (length b - 1) b) → C.sub (get_or (row (drop (length b - 1) b)) k 0) (get_or (drop (length b - 1) n) k 0) ≡ Y (length (drop (length b - 1) b) - 1 - k)
      read k h =
          let last = length b - 1 in
          let l = length-drop last b in
          let position : length b - 1 - (last + k) ≡ length (drop last b) - 1 - k = omega arith in
          ap₂ C.sub (ap (λ (t : List ℕ). get_or t k 0) (sym (drop-map (λ a. a.symbol) last b)) ∙ get_or-drop last (row b) k 0) (get_or-drop last n k 0)
          ∙ values (last + k) (omega arith) ∙ ap Y position

  other_changes : changes_where is_wrong_number C 0 (take (length b - 1) b) (take (length b - 1) n) ≡ map placed (others (positions (flags is_wrong_number b n)))
  other_changes =
      let last = length b - 1 in
      let l = length-take-le last b (omega arith) in
      let m = length-take-le last n (omega arith) in
      let f = length_flags is_wrong_number b n same in
      changes_by_position is_wrong_number C (λ p. Y (suc p)) last 0 (take last b) (take last n) (omega arith) (omega arith) read
      ∙ map_later (λ p. record { place = last - 1 - p; change = Y (suc p) }) placed later (positions (flags is_wrong_number (take last b) (take last n)))
      ∙ ap (λ fs. map placed (map suc (positions fs))) (flags_take is_wrong_number last b n ∙ ap (λ k. take (k - 1) (flags is_wrong_number b n)) (sym f))
      ∙ ap (map placed) (sym (others_positions (flags is_wrong_number b n)))
    where
      later : (p : ℕ) → record { place = length b - 1 - 1 - p; change = Y (suc p) } ≡ placed (suc p)
      later p = let place : length b - 1 - 1 - p ≡ length b - 1 - suc p = omega arith in ap (λ k. record { place = k; change = Y (suc p) }) place

      read : (k : ℕ) → k < length (take (length b - 1) b) → C.sub (get_or (row (take (length b - 1) b)) k 0) (get_or (take (length b - 1) n) k 0) ≡ Y (suc (length (take (length b - 1) b) - 1 - k))
      read k h =
          let last = length b - 1 in
          let l = length-take-le last b (omega arith) in
          let position : length b - 1 - k ≡ suc (length (take last b) - 1 - k) = omega arith in
          ap₂ C.sub (ap (λ (t : List ℕ). get_or t k 0) (sym (take-map (λ a. a.symbol) last b)) ∙ get_or-take last (row b) k 0 (omega arith)) (get_or-take last n k 0 (omega arith))
          ∙ values k (omega arith) ∙ ap Y position

  changes_placed : changes C b n ≡ map placed (positions (marks b)) ++ map placed (zero_first (positions (wrong_places ℕ_discrete b n)))
  changes_placed =
      ap₂ ◌++◌
      (changes_by_position is_doubtful C Y (length b) 0 b n (omega arith) same values ∙ ap (λ fs. map placed (positions fs)) (flags_marks b n same))
      (ap₂ ◌++◌ last_changes other_changes
      ∙ sym (map-append placed (zeros (positions (flags is_wrong_number b n))) (others (positions (flags is_wrong_number b n))))
      ∙ ap (λ fs. map placed (zero_first (positions fs))) (flags_wrong b n))

-- the positions of the roots that decoding finds, in the order of the search, the root being of that order
abbrev pub root_list : {S E : Type 0} → Enumeration S → FieldOn S → (e : FieldOn E) → (S → E) → Code S E → Book → ℕ → List ℕ
root_list N s e up C b ord = map (root_position ord) (roots e (found_locator s e up C (in_elements N b)) C.root ord)

module _ {S E : Type 0} (N : Enumeration S) (s : FieldOn S) (e : FieldOn E) (up : S → E) (C : Code S E) (b : Book) (n : List ℕ) where
  abbrev pub change_number : ℕ → ℕ
  change_number p = N.number (change_symbol s e up C (in_elements N b) (elements N n) p)

  abbrev pub record_at : ℕ → Record
  record_at p = record { place = length b - 1 - p; change = change_number p }

  -- decoding tells the change at a position of the book
  pub record Right (p : ℕ) : Type 0 where
    pub on_slip : p < length b
    pub sloped : ¬ (found_slope s e up C (in_elements N b) p ≡ e.𝟘)
    pub value : found_change s e up C (in_elements N b) p ≡ up (change_symbol s e up C (in_elements N b) (elements N n) p)
    pub drops : (r : Option S) → Drops up (found_change s e up C (in_elements N b) p) r → r ≡ Some (change_symbol s e up C (in_elements N b) (elements N n) p)

module _ {S E : Type 0} (N : Enumeration S) (s : FieldOn S) (e : FieldOn E) (up : S → E) (L : IsEmbedding s e up) (C : Code S E) (lawful : IsLawfulCode s e up C)
    (b : Book) (n : List ℕ) (symbols-below : Below N (row b)) (short : length b ≤ C.limit) (near : IsNear (numeric_code N s C) b n) where
  abbrev b_s : BookOf S
  b_s = in_elements N b

  abbrev n_s : List S
  n_s = elements N n

  close : IsNearRow s C b_s n_s
  close = near_elements N s C b n symbols-below near

  short_s : length b_s ≤ C.limit
  short_s = let l = length_elements N b in omega arith

  -- the number of the change at a position is the symbol there less the one that was meant
  change_read : (k : ℕ) → k < length b → (numeric_code N s C).sub (get_or (row b) k 0) (get_or n k 0) ≡ change_number N s e up C b n (length b - 1 - k)
  change_read k h =
      let l = length_elements N b in
      let m = near.same_length in
      let r = length-map b (λ a. a.symbol) in
      ap₂ (λ x y. N.number (s.add x (s.neg y)))
      (sym (ap (λ t. coeff s t k) (row_elements N b) ∙ get_or-map N.element (row b) k 0 s.𝟘 (omega arith))) (sym (get_or-map N.element n k 0 s.𝟘 (omega arith)))
      ∙ ap N.number (sym (change_of_place s e up C b_s n_s close.same_length k (omega arith)))
      ∙ ap (λ j. change_number N s e up C b n (j - 1 - k)) l

  wrong_same : positions (wrong_places ℕ_discrete b n) ≡ error_positions s e up C b_s n_s
  wrong_same = ap positions (wrong_elements N s.dec_eq b n symbols-below (sound_below N s C n near.sound))

  right : (p : ℕ) → Mem p (error_positions s e up C b_s n_s ++ doubted_positions s e up C b_s) → Right N s e up C b n p
  right p m =
      let l = length_elements N b in
      let w = length_wrong s b_s n_s close.same_length in
      let d = length-map b_s (λ a. a.doubted) in
      let errs = error_positions s e up C b_s n_s in
      let ers = doubted_positions s e up C b_s in
      let found = mends s e up L C lawful b_s n_s short_s close in
      record {
        on_slip = all_at (λ q. q < length b) (errs ++ ers) (all_append (λ q. q < length b) errs ers
            (positions_below (wrong_places s.dec_eq b_s n_s) (length b) (omega arith)) (positions_below (doubted_places b_s) (length b) (omega arith))) m;
        sloped = found.sloped p m;
        value = found.value p m;
        drops = found.drops p m;
      }

  rights : AllByRecursion (Right N s e up C b n) (error_positions s e up C b_s n_s ++ doubted_positions s e up C b_s)
  rights = all_from (Right N s e up C b n) (error_positions s e up C b_s n_s ++ doubted_positions s e up C b_s) right

  pub doubted_right : AllByRecursion (Right N s e up C b n) (positions (marks b))
  doubted_right = subst (λ fs. AllByRecursion (Right N s e up C b n) (positions fs)) (marks_elements N b)
      (all_right (Right N s e up C b n) (error_positions s e up C b_s n_s) (doubted_positions s e up C b_s) rights)

  module _ (ord : ℕ) (o : HasOrder e C.root ord) where
    roots_are : root_list N s e up C b ord ≡ zero_first (error_positions s e up C b_s n_s)
    roots_are = near_root_positions s e up L C lawful ord o b_s n_s short_s close

    pub roots_right : AllByRecursion (Right N s e up C b n) (root_list N s e up C b ord)
    roots_right =
        let errs = error_positions s e up C b_s n_s in
        let R = Right N s e up C b n in
        subst (AllByRecursion R) (sym roots_are) (all_zero_first R errs (all_left R errs (doubted_positions s e up C b_s) rights))

    -- the records of the doubted positions and then of the roots
    pub listed_changes : map (record_at N s e up C b n) (positions (marks b)) ++ map (record_at N s e up C b n) (root_list N s e up C b ord) ≡ changes (numeric_code N s C) b n
    listed_changes =
        let rec = record_at N s e up C b n in
        ap (λ ps. map rec (positions (marks b)) ++ map rec ps) (roots_are ∙ ap zero_first (sym wrong_same))
        ∙ sym (changes_placed (numeric_code N s C) (change_number N s e up C b n) b n near.same_length change_read)
