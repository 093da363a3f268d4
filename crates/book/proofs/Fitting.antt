-- A pattern that fits leads to a near row, and the changes to a near row are a pattern that fits.
use Rattle.std.specs.List.{AllByRecursion}
use Rattle.std.proofs.Common.{◌≡◌, ℕ, zero, suc, ◌+◌, ◌-◌, ◌<◌, ◌≤◌, Bool, true, false, cond, not, ◌&&◌, List, [], ◌∷◌, ◌++◌, length, get_or, take, drop, set, sym, refl, ap, ap₂, ◌∙◌, subst, arith, length-append}
use native.Mathlib.Decide.{ℕ_discrete}
use Rattle.std.proofs.lemmas.List.{length-map, length-set}
use Rattle.std.proofs.lemmas.List.Sums.{count_by-le-length, sum_by-append, sum_by-cons}
use Rattle.std.proofs.lemmas.Bool.{both_ways}
use Rattle.algebra.specs.Rows.{count_true, wrong_places, doubted_places, errors}
use Rattle.algebra.proofs.Decided.{is_no}
use Rattle.algebra.specs.Series.{Mem, here, there}
use Rattle.algebra.proofs.Members.{all_append, all_map}
use Rattle.algebra.specs.Rows as rows
use Rattle.book.specs.Book.{Place, Book, row, doubts, doubted_at}
use Rattle.algebra.specs.NumericCode.{NumericCode}
use Rattle.book.specs.Codes.{IsLawful, IsNear}
use Rattle.book.specs.Mending.{is_doubtful, is_wrong_number, changes_where, changes, row_less, HasNoRepeat, record_places, undoubted_count, Fits}
use Rattle.book.specs.declared.record.Record.{Record}
use Rattle.book.proofs.Subtracting.{changes_subtracted}

-- no place is wrong by the book's own row
errors_row : (b : Book) → errors ℕ_discrete b (row b) ≡ 0
errors_row [] = refl
errors_row (a ∷ b) = by a.doubted (ℕ_discrete a.symbol a.symbol) (errors_row b)
  where
    by : (d : Bool) (q : Dec (a.symbol ≡ a.symbol)) → count_true (wrong_places ℕ_discrete b (row b)) ≡ 0 → count_true ((not d && is_no q) ∷ wrong_places ℕ_discrete b (row b)) ≡ 0
    by true q h = h
    by false (yes q) h = h
    by false (no q) h = absurd (q refl)

-- one symbol set makes at most one place wrong, and none if it is doubted
errors_set : (b : Book) (vs : List ℕ) (p v : ℕ) → errors ℕ_discrete b (set vs p v) ≤ errors ℕ_discrete b vs + cond (not (doubted_at p b)) 1 0
errors_set [] vs p v = omega arith
errors_set (a ∷ b) [] p v = omega arith
errors_set (a ∷ b) (x ∷ vs) zero v = by a.doubted (is_no (ℕ_discrete a.symbol v)) (is_no (ℕ_discrete a.symbol x)) (wrong_places ℕ_discrete b vs)
  where
    by : (d s t : Bool) (fs : List Bool) → count_true ((not d && s) ∷ fs) ≤ count_true ((not d && t) ∷ fs) + cond (not d) 1 0
    by true s t fs = omega arith
    by false true true fs = omega arith
    by false true false fs = omega arith
    by false false true fs = omega arith
    by false false false fs = omega arith
errors_set (a ∷ b) (x ∷ vs) (suc p) v = by (is_wrong_number a x) (errors_set b vs p v)
  where
    by : (t : Bool) → count_true (wrong_places ℕ_discrete b (set vs p v)) ≤ count_true (wrong_places ℕ_discrete b vs) + cond (not (doubted_at p b)) 1 0
        → count_true (t ∷ wrong_places ℕ_discrete b (set vs p v)) ≤ count_true (t ∷ wrong_places ℕ_discrete b vs) + cond (not (doubted_at p b)) 1 0
    by true h = omega arith
    by false h = h

-- what holds of each record's place holds of each of the places
pub all_places : (P : ℕ → Type 0) (cs : List Record) → AllByRecursion (λ c. P c.place) cs → AllByRecursion P (record_places cs)
all_places P [] h = tt
all_places P (c ∷ cs) h = (h.0, all_places P cs h.1)

module _ (C : NumericCode) where
  errors_subtracted : (b : Book) (cs : List Record) (vs : List ℕ) → errors ℕ_discrete b (row_less C cs vs) ≤ errors ℕ_discrete b vs + undoubted_count b cs
  errors_subtracted b [] vs = omega arith
  errors_subtracted b (c ∷ cs) vs =
      let v = C.sub (get_or vs c.place 0) c.change in
      let one = errors_set b vs c.place v in
      let rest = errors_subtracted b cs (set vs c.place v) in
      omega (arith, sum_by-cons (λ d. cond (not (doubted_at d.place b)) 1 0) c cs)

  pub length_subtracted : (cs : List Record) (vs : List ℕ) → length (row_less C cs vs) ≡ length vs
  length_subtracted [] vs = refl
  length_subtracted (c ∷ cs) vs = let v = C.sub (get_or vs c.place 0) c.change in length_subtracted cs (set vs c.place v) ∙ length-set vs c.place v

  pub fits_near : (b : Book) (cs : List Record) → Fits C b cs → IsNear C b (row_less C cs (row b))
  fits_near b cs fits = record {
    sound = fits.sound;
    same_length = length_subtracted cs (row b) ∙ length-map b (λ a. a.symbol);
    close =
        let few = errors_subtracted b cs (row b) in
        let none = errors_row b in
        let within = fits.within in
        omega arith;
  }

  module _ (want : Place → ℕ → Bool) where
    -- c is the change that is wanted at place j
    abbrev Wanted : Book → List ℕ → ℕ → Record → Type 0
    Wanted [] n j c = ⊥
    Wanted (a ∷ b) [] j c = ⊥
    Wanted (a ∷ b) (v ∷ n) zero c = (want a v ≡ true) × (c.change ≡ C.sub a.symbol v)
    Wanted (a ∷ b) (v ∷ n) (suc j) c = Wanted b n j c

    -- the same, its own place being counted from i
    abbrev WantedFrom : ℕ → Book → List ℕ → Record → Type 0
    WantedFrom i b n c = (j : ℕ) × (c.place ≡ i + j) × Wanted b n j c

    all_wanted : (i : ℕ) (b : Book) (n : List ℕ) → AllByRecursion (WantedFrom i b n) (changes_where want C i b n)
    all_wanted i [] n = tt
    all_wanted i (a ∷ b) [] = tt
    all_wanted i (a ∷ b) (v ∷ n) = by (want a v) refl (all_map (WantedFrom (i + 1) b n) (WantedFrom i (a ∷ b) (v ∷ n)) later (changes_where want C (i + 1) b n) (all_wanted (i + 1) b n))
      where
        later : (c : Record) → WantedFrom (i + 1) b n c → WantedFrom i (a ∷ b) (v ∷ n) c
        later c w = let e = w.1 in (suc w.0, omega arith, w.2)

        by : (t : Bool) → want a v ≡ t → AllByRecursion (WantedFrom i (a ∷ b) (v ∷ n)) (changes_where want C (i + 1) b n)
            → AllByRecursion (WantedFrom i (a ∷ b) (v ∷ n)) (cond t (record { place = i; change = C.sub a.symbol v } ∷ changes_where want C (i + 1) b n) (changes_where want C (i + 1) b n))
        by true q h = ((zero, omega arith, (q, refl)), h)
        by false q h = h

    wanted_below : (b : Book) (n : List ℕ) (j : ℕ) (c : Record) → Wanted b n j c → j < length b
    wanted_below [] n j c w = absurd w
    wanted_below (a ∷ b) [] j c w = absurd w
    wanted_below (a ∷ b) (v ∷ n) zero c w = omega arith
    wanted_below (a ∷ b) (v ∷ n) (suc j) c w = let h = wanted_below b n j c w in omega arith

    wanted_take : (k : ℕ) (b : Book) (n : List ℕ) (j : ℕ) (c : Record) → Wanted (take k b) (take k n) j c → Wanted b n j c × (j < k)
    wanted_take zero b n j c w = absurd w
    wanted_take (suc k) [] n j c w = absurd w
    wanted_take (suc k) (a ∷ b) [] j c w = absurd w
    wanted_take (suc k) (a ∷ b) (v ∷ n) zero c w = (w, omega arith)
    wanted_take (suc k) (a ∷ b) (v ∷ n) (suc j) c w = let h = wanted_take k b n j c w in let l = h.1 in (h.0, omega arith)

    wanted_drop : (k : ℕ) (b : Book) (n : List ℕ) (j p : ℕ) (c : Record) → p ≡ k + j → Wanted (drop k b) (drop k n) j c → Wanted b n p c
    wanted_drop zero b n j p c e w = let same : j ≡ p = omega arith in subst (λ i. Wanted b n i c) same w
    wanted_drop (suc k) [] n j p c e w = absurd w
    wanted_drop (suc k) (a ∷ b) [] j p c e w = by (drop k b) w
      where
        by : (d : Book) → Wanted d [] j c → ⊥
        by [] h = h
        by (x ∷ d) h = h
    wanted_drop (suc k) (a ∷ b) (v ∷ n) j zero c e w = absurd (omega arith)
    wanted_drop (suc k) (a ∷ b) (v ∷ n) j (suc p) c e w = wanted_drop k b n j p c (omega arith) w

    -- places ascend
    all_from_place : (i : ℕ) (b : Book) (n : List ℕ) → AllByRecursion (λ c. i ≤ c.place) (changes_where want C i b n)
    all_from_place i b n = all_map (WantedFrom i b n) (λ c. i ≤ c.place) (λ c w. let e = w.1 in omega arith) (changes_where want C i b n) (all_wanted i b n)

    different_at : (i : ℕ) (b : Book) (n : List ℕ) → HasNoRepeat (record_places (changes_where want C i b n))
    different_at i [] n = tt
    different_at i (a ∷ b) [] = tt
    different_at i (a ∷ b) (v ∷ n) = by (want a v) (different_at (i + 1) b n)
      where
        by : (t : Bool) → HasNoRepeat (record_places (changes_where want C (i + 1) b n))
            → HasNoRepeat (record_places (cond t (record { place = i; change = C.sub a.symbol v } ∷ changes_where want C (i + 1) b n) (changes_where want C (i + 1) b n)))
        by true d = (all_places (λ q. ¬ (i ≡ q)) (changes_where want C (i + 1) b n) (all_map (λ c. i + 1 ≤ c.place) (λ c. ¬ (i ≡ c.place)) (λ c l e. omega arith) (changes_where want C (i + 1) b n) (all_from_place (i + 1) b n)), d)
        by false d = d

  wanted_doubtful : (b : Book) (n : List ℕ) (j : ℕ) (c : Record) → Wanted is_doubtful b n j c → doubted_at j b ≡ true
  wanted_doubtful [] n j c w = absurd w
  wanted_doubtful (a ∷ b) [] j c w = absurd w
  wanted_doubtful (a ∷ b) (v ∷ n) zero c w = w.0
  wanted_doubtful (a ∷ b) (v ∷ n) (suc j) c w = wanted_doubtful b n j c w

  wanted_wrong : (b : Book) (n : List ℕ) (j : ℕ) (c : Record) → Wanted is_wrong_number b n j c → doubted_at j b ≡ false
  wanted_wrong [] n j c w = absurd w
  wanted_wrong (a ∷ b) [] j c w = absurd w
  wanted_wrong (a ∷ b) (v ∷ n) zero c w = by a.doubted (is_no (ℕ_discrete a.symbol v)) w.0
    where
      by : (d t : Bool) → (not d && t) ≡ true → d ≡ false
      by true t q = absurd (both_ways false refl q)
      by false t q = refl
  wanted_wrong (a ∷ b) (v ∷ n) (suc j) c w = wanted_wrong b n j c w

  -- every doubted place is wanted as such
  doubted_wanted : (i : ℕ) (b : Book) (n : List ℕ) (p j : ℕ) → length n ≡ length b → p ≡ i + j → doubted_at j b ≡ true → Mem p (record_places (changes_where is_doubtful C i b n))
  doubted_wanted i [] n p j l e q = absurd (both_ways false refl q)
  doubted_wanted i (a ∷ b) [] p j l e q = absurd (omega arith)
  doubted_wanted i (a ∷ b) (v ∷ n) p zero l e q =
      let same : i ≡ p = omega arith in
      by a.doubted q same
    where
      by : (d : Bool) → d ≡ true → i ≡ p → Mem p (record_places (cond d (record { place = i; change = C.sub a.symbol v } ∷ changes_where is_doubtful C (i + 1) b n) (changes_where is_doubtful C (i + 1) b n)))
      by true q' same = subst (λ t. Mem t (i ∷ record_places (changes_where is_doubtful C (i + 1) b n))) same here
      by false q' same = absurd (both_ways false refl q')
  doubted_wanted i (a ∷ b) (v ∷ n) p (suc j) l e q = by a.doubted (doubted_wanted (i + 1) b n p j (omega arith) (omega arith) q)
    where
      by : (d : Bool) → Mem p (record_places (changes_where is_doubtful C (i + 1) b n))
          → Mem p (record_places (cond d (record { place = i; change = C.sub a.symbol v } ∷ changes_where is_doubtful C (i + 1) b n) (changes_where is_doubtful C (i + 1) b n)))
      by true m = there m
      by false m = m

  length_doubted : (i : ℕ) (b : Book) (n : List ℕ) → length n ≡ length b → length (changes_where is_doubtful C i b n) ≡ rows.doubts b
  length_doubted i [] n l = refl
  length_doubted i (a ∷ b) [] l = absurd (omega arith)
  length_doubted i (a ∷ b) (v ∷ n) l = by a.doubted (length_doubted (i + 1) b n (omega arith))
    where
      by : (d : Bool) → length (changes_where is_doubtful C (i + 1) b n) ≡ rows.doubts b
          → length (cond d (record { place = i; change = C.sub a.symbol v } ∷ changes_where is_doubtful C (i + 1) b n) (changes_where is_doubtful C (i + 1) b n)) ≡ count_true (d ∷ doubted_places b)
      by true h = ap suc h
      by false h = h

  length_wrong : (i : ℕ) (b : Book) (n : List ℕ) → length (changes_where is_wrong_number C i b n) ≡ errors ℕ_discrete b n
  length_wrong i [] n = refl
  length_wrong i (a ∷ b) [] = refl
  length_wrong i (a ∷ b) (v ∷ n) = by (is_wrong_number a v) (length_wrong (i + 1) b n)
    where
      by : (t : Bool) → length (changes_where is_wrong_number C (i + 1) b n) ≡ errors ℕ_discrete b n
          → length (cond t (record { place = i; change = C.sub a.symbol v } ∷ changes_where is_wrong_number C (i + 1) b n) (changes_where is_wrong_number C (i + 1) b n)) ≡ count_true (t ∷ wrong_places ℕ_discrete b n)
      by true h = ap suc h
      by false h = h

  elsewhere_most : (b : Book) (cs : List Record) → undoubted_count b cs ≤ length cs
  elsewhere_most b cs = count_by-le-length (λ c. not (doubted_at c.place b)) cs

  elsewhere_none : (b : Book) (cs : List Record) → AllByRecursion (λ c. doubted_at c.place b ≡ true) cs → undoubted_count b cs ≡ 0
  elsewhere_none b [] h = refl
  elsewhere_none b (c ∷ cs) h =
      sum_by-cons (λ d. cond (not (doubted_at d.place b)) 1 0) c cs ∙ ap₂ ◌+◌ (ap (λ t. cond (not t) 1 0) h.0) (elsewhere_none b cs h.1)

  elsewhere_append : (b : Book) (cs ds : List Record) → undoubted_count b (cs ++ ds) ≡ undoubted_count b cs + undoubted_count b ds
  elsewhere_append b cs ds = sum_by-append (λ c. cond (not (doubted_at c.place b)) 1 0) cs ds

  errors_split : (k : ℕ) (b : Book) (n : List ℕ) → errors ℕ_discrete b n ≡ errors ℕ_discrete (drop k b) (drop k n) + errors ℕ_discrete (take k b) (take k n)
  errors_split zero b n = omega arith
  errors_split (suc k) [] n = omega arith
  errors_split (suc k) (a ∷ b) [] = by (drop k b)
    where
      by : (d : Book) → 0 ≡ errors ℕ_discrete d [] + 0
      by [] = refl
      by (x ∷ d) = refl
  errors_split (suc k) (a ∷ b) (v ∷ n) = by (is_wrong_number a v) (errors_split k b n)
    where
      by : (t : Bool) → errors ℕ_discrete b n ≡ errors ℕ_discrete (drop k b) (drop k n) + errors ℕ_discrete (take k b) (take k n)
          → count_true (t ∷ wrong_places ℕ_discrete b n) ≡ errors ℕ_discrete (drop k b) (drop k n) + count_true (t ∷ wrong_places ℕ_discrete (take k b) (take k n))
      by true h = omega arith
      by false h = h

  -- the changes are as many as the doubts and the errors
  length_changes : (b : Book) (n : List ℕ) → length n ≡ length b → length (changes C b n) ≡ doubts b + errors ℕ_discrete b n
  length_changes b n l =
      let k = length b - 1 in
      let one = length_doubted 0 b n l in
      let two = length_wrong k (drop k b) (drop k n) in
      let three = length_wrong 0 (take k b) (take k n) in
      let split = errors_split k b n in
      let first = length-append (changes_where is_doubtful C 0 b n) (changes_where is_wrong_number C k (drop k b) (drop k n) ++ changes_where is_wrong_number C 0 (take k b) (take k n)) in
      let second = length-append (changes_where is_wrong_number C k (drop k b) (drop k n)) (changes_where is_wrong_number C 0 (take k b) (take k n)) in
      omega (arith, one, two, three, split, first, second)

  pub few_changes : (b : Book) (n : List ℕ) → IsNear C b n → length (changes C b n) ≤ C.bound
  few_changes b n near =
      let as_many = length_changes b n near.same_length in
      let close = near.close in
      omega (arith, as_many, close)

  different_append : (cs ds : List Record) → HasNoRepeat (record_places cs) → HasNoRepeat (record_places ds) → AllByRecursion (λ c. AllByRecursion (λ d. ¬ (c.place ≡ d.place)) ds) cs → HasNoRepeat (record_places (cs ++ ds))
  different_append [] ds h k apart = k
  different_append (c ∷ cs) ds h k apart =
      (all_places (λ q. ¬ (c.place ≡ q)) (cs ++ ds) (all_append (λ d. ¬ (c.place ≡ d.place)) cs ds (places_all (λ q. ¬ (c.place ≡ q)) cs h.0) apart.0), different_append cs ds h.1 k apart.1)
    where
      places_all : (P : ℕ → Type 0) (es : List Record) → AllByRecursion P (record_places es) → AllByRecursion (λ e. P e.place) es
      places_all P [] a = tt
      places_all P (e ∷ es) a = (a.0, places_all P es a.1)

  -- places that one test tells apart are apart
  apart_by : (P Q : ℕ → Type 0) → ((p : ℕ) → P p → Q p → ⊥) → (cs ds : List Record) → AllByRecursion (λ c. P c.place) cs → AllByRecursion (λ d. Q d.place) ds → AllByRecursion (λ c. AllByRecursion (λ d. ¬ (c.place ≡ d.place)) ds) cs
  apart_by P Q never cs ds h k =
      all_map (λ c. P c.place) (λ c. AllByRecursion (λ d. ¬ (c.place ≡ d.place)) ds)
      (λ c p. all_map (λ d. Q d.place) (λ d. ¬ (c.place ≡ d.place)) (λ d q e. never d.place (subst P e p) q) ds k) cs h

  -- what is told of the changes to a near row, of the doubted places, the last place and the others
  module _ (b : Book) (n : List ℕ) where
    abbrev last : ℕ
    last = length b - 1

    abbrev at_doubts : List Record
    at_doubts = changes_where is_doubtful C 0 b n

    abbrev at_last : List Record
    at_last = changes_where is_wrong_number C last (drop last b) (drop last n)

    abbrev at_others : List Record
    at_others = changes_where is_wrong_number C 0 (take last b) (take last n)

    doubts_wanted : AllByRecursion (λ c. Wanted is_doubtful b n c.place c) at_doubts
    doubts_wanted = all_map (WantedFrom is_doubtful 0 b n) (λ c. Wanted is_doubtful b n c.place c) (λ c w. wanted_drop is_doubtful 0 b n w.0 c.place c w.1 w.2) at_doubts (all_wanted is_doubtful 0 b n)

    last_wanted : AllByRecursion (λ c. Wanted is_wrong_number b n c.place c) at_last
    last_wanted = all_map (WantedFrom is_wrong_number last (drop last b) (drop last n)) (λ c. Wanted is_wrong_number b n c.place c) (λ c w. wanted_drop is_wrong_number last b n w.0 c.place c w.1 w.2) at_last (all_wanted is_wrong_number last (drop last b) (drop last n))

    others_wanted : AllByRecursion (λ c. Wanted is_wrong_number b n c.place c × (c.place < last)) at_others
    others_wanted = all_map (WantedFrom is_wrong_number 0 (take last b) (take last n)) (λ c. Wanted is_wrong_number b n c.place c × (c.place < last)) one at_others (all_wanted is_wrong_number 0 (take last b) (take last n))
      where
        one : (c : Record) → WantedFrom is_wrong_number 0 (take last b) (take last n) c → Wanted is_wrong_number b n c.place c × (c.place < last)
        one c w = wanted_take is_wrong_number last b n c.place c (wanted_drop is_wrong_number 0 (take last b) (take last n) w.0 c.place c w.1 w.2)

    wrongs_wanted : AllByRecursion (λ c. Wanted is_wrong_number b n c.place c) (at_last ++ at_others)
    wrongs_wanted = all_append (λ c. Wanted is_wrong_number b n c.place c) at_last at_others last_wanted
        (all_map (λ c. Wanted is_wrong_number b n c.place c × (c.place < last)) (λ c. Wanted is_wrong_number b n c.place c) (λ c w. w.0) at_others others_wanted)

    doubts_doubted : AllByRecursion (λ c. doubted_at c.place b ≡ true) at_doubts
    doubts_doubted = all_map (λ c. Wanted is_doubtful b n c.place c) (λ c. doubted_at c.place b ≡ true) (λ c w. wanted_doubtful b n c.place c w) at_doubts doubts_wanted

    wrongs_undoubted : AllByRecursion (λ c. doubted_at c.place b ≡ false) (at_last ++ at_others)
    wrongs_undoubted = all_map (λ c. Wanted is_wrong_number b n c.place c) (λ c. doubted_at c.place b ≡ false) (λ c w. wanted_wrong b n c.place c w) (at_last ++ at_others) wrongs_wanted

    -- what follows of both kinds of changes follows of all
    all_changes : (P : Record → Type 0) → ((c : Record) → Wanted is_doubtful b n c.place c → P c) → ((c : Record) → Wanted is_wrong_number b n c.place c → P c) → AllByRecursion P (changes C b n)
    all_changes P f g = all_append P at_doubts (at_last ++ at_others)
        (all_map (λ c. Wanted is_doubtful b n c.place c) P f at_doubts doubts_wanted) (all_map (λ c. Wanted is_wrong_number b n c.place c) P g (at_last ++ at_others) wrongs_wanted)

    different_changes : HasNoRepeat (record_places (changes C b n))
    different_changes = different_append at_doubts (at_last ++ at_others) (different_at is_doubtful 0 b n)
        (different_append at_last at_others (different_at is_wrong_number last (drop last b) (drop last n)) (different_at is_wrong_number 0 (take last b) (take last n))
        (apart_by (λ p. last ≤ p) (λ p. p < last) (λ p l h. omega arith) at_last at_others (all_from_place is_wrong_number last (drop last b) (drop last n))
        (all_map (λ c. Wanted is_wrong_number b n c.place c × (c.place < last)) (λ c. c.place < last) (λ c w. w.1) at_others others_wanted)))
        (apart_by (λ p. doubted_at p b ≡ true) (λ p. doubted_at p b ≡ false) (λ p t f. both_ways (doubted_at p b) f t) at_doubts (at_last ++ at_others) doubts_doubted wrongs_undoubted)

    elsewhere_changes : undoubted_count b (changes C b n) ≤ errors ℕ_discrete b n
    elsewhere_changes =
        let none = elsewhere_none b at_doubts doubts_doubted in
        let sum = elsewhere_append b at_doubts (at_last ++ at_others) in
        let most = elsewhere_most b (at_last ++ at_others) in
        let long = length-append at_last at_others in
        let two = length_wrong last (drop last b) (drop last n) in
        let three = length_wrong 0 (take last b) (take last n) in
        let split = errors_split last b n in
        omega (arith, none, sum, most, long, two, three, split)

  -- a symbol that is changed by nothing is the one that was meant
  same_symbol : IsLawful C → (x y : ℕ) → x < C.size → y < C.size → C.sub x y ≡ C.zero → x ≡ y
  same_symbol law x y hx hy e = sym (law.sub_back x x hx hx) ∙ (ap (C.sub x) (law.sub_itself x ∙ sym e) ∙ law.sub_back x y hx hy)

  wanted_changed : IsLawful C → (b : Book) (n : List ℕ) (j : ℕ) (c : Record) → AllByRecursion (λ v. v < C.size) (row b) → AllByRecursion (λ v. v < C.size) n → Wanted is_wrong_number b n j c → ¬ (c.change ≡ C.zero)
  wanted_changed law [] n j c s t w e = absurd w
  wanted_changed law (a ∷ b) [] j c s t w e = absurd w
  wanted_changed law (a ∷ b) (v ∷ n) zero c s t w e = by a.doubted (ℕ_discrete a.symbol v) w.0 (same_symbol law a.symbol v s.0 t.0 (sym w.1 ∙ e))
    where
      by : (d : Bool) (q : Dec (a.symbol ≡ v)) → (not d && is_no q) ≡ true → a.symbol ≡ v → ⊥
      by true q h same = both_ways false refl h
      by false (yes q) h same = both_ways false refl h
      by false (no q) h same = q same
  wanted_changed law (a ∷ b) (v ∷ n) (suc j) c s t w e = wanted_changed law b n j c s.1 t.1 w e

  wanted_symbol : IsLawful C → (want : Place → ℕ → Bool) (b : Book) (n : List ℕ) (j : ℕ) (c : Record) → Wanted want b n j c → c.change < C.size
  wanted_symbol law want [] n j c w = absurd w
  wanted_symbol law want (a ∷ b) [] j c w = absurd w
  wanted_symbol law want (a ∷ b) (v ∷ n) zero c w = let h = law.sub_below a.symbol v in let e = w.1 in omega (arith, h, e)
  wanted_symbol law want (a ∷ b) (v ∷ n) (suc j) c w = wanted_symbol law want b n j c w

  mem_front : {p : ℕ} (cs ds : List Record) → Mem p (record_places cs) → Mem p (record_places (cs ++ ds))
  mem_front [] ds m = elim m [ ]
  mem_front (c ∷ cs) ds here = here
  mem_front (c ∷ cs) ds (there m) = there (mem_front cs ds m)

  pub changes_fit : IsLawful C → (b : Book) (n : List ℕ) → AllByRecursion (λ v. v < C.size) (row b) → IsNear C b n → Fits C b (changes C b n)
  changes_fit law b n below near =
      let symbols = law.symbols n near.sound in
      record {
        distinct = different_changes b n;
        on_slip = all_places (λ p. p < length b) (changes C b n) (all_changes b n (λ c. c.place < length b) (λ c w. wanted_below is_doubtful b n c.place c w) (λ c w. wanted_below is_wrong_number b n c.place c w));
        symbols = all_changes b n (λ c. c.change < C.size) (λ c w. wanted_symbol law is_doubtful b n c.place c w) (λ c w. wanted_symbol law is_wrong_number b n c.place c w);
        doubted = λ p q. mem_front (at_doubts b n) (at_last b n ++ at_others b n) (doubted_wanted 0 b n p p near.same_length (omega arith) q);
        changed = all_changes b n (λ c. doubted_at c.place b ≡ false → ¬ (c.change ≡ C.zero))
            (λ c w q. absurd (both_ways (doubted_at c.place b) q (wanted_doubtful b n c.place c w)))
            (λ c w q. wanted_changed law b n c.place c below symbols w);
        within = let few = elsewhere_changes b n in let close = near.close in omega (arith, few, close);
        sound = subst (λ m. C.is_sound m ≡ true) (sym (changes_subtracted C law b n below near)) near.sound;
      }
