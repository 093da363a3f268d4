-- Within the limit the changes to a near row are the only pattern that fits, but for the order of the records.
use Rattle.std.specs.List.{AllByRecursion}
use Rattle.std.proofs.Common.{◌≡◌, ℕ, zero, suc, ◌<◌, ◌≤◌, Bool, true, false, ◌⊎◌, List, [], ◌∷◌, ◌++◌, length, get_or, set, sym, refl, ap, ap₂, ◌∙◌, subst, inl, inr, arith}
use Rattle.std.specs.Prelude.{IsPermutation}
use native.Mathlib.Decide.{ℕ_discrete}
use Rattle.std.proofs.lemmas.List.{length-map, length-set, get_or-set_same, get_or-set_other}
use Rattle.std.proofs.lemmas.List.Sorted.{IsPermutation-refl, IsPermutation-sym, IsPermutation-trans, IsPermutation-cons, IsPermutation-middle}
use Rattle.algebra.specs.Series.{Mem, here, there}
use Rattle.algebra.proofs.Members.{all_at, all_from}
use Rattle.algebra.specs.NumericCode.{NumericCode}
use Rattle.book.specs.Book.{Book, row, doubted_at}
use Rattle.book.specs.Codes.{IsLawful, IsNear}
use Rattle.book.specs.Mending.{changes, row_less, HasNoRepeat, record_places, Fits, IsOnlyPattern}
use Rattle.book.specs.declared.record.Record.{Record}
use Rattle.book.proofs.Fitting.{changes_fit, fits_near}
use Rattle.book.proofs.Same.{one_near_row}
use Rattle.book.proofs.Subtracting.{changes_subtracted}

mem_cases : {I : Type 0} {x y : I} {ys : List I} → Mem x (y ∷ ys) → (y ≡ x) ⊎ Mem x ys
mem_cases here = inl refl
mem_cases (there m) = inr m

mem_place : {c : Record} {cs : List Record} → Mem c cs → Mem c.place (record_places cs)
mem_place here = here
mem_place (there m) = there (mem_place m)

-- the record of a place, if there is one
find_at : (p : ℕ) (cs : List Record) → ((c : Record) × Mem c cs × (c.place ≡ p)) ⊎ ¬ Mem p (record_places cs)
find_at p [] = inr (λ m. elim m [ ])
find_at p (c ∷ cs) = by (ℕ_discrete c.place p) (find_at p cs)
  where
    by : Dec (c.place ≡ p) → ((d : Record) × Mem d cs × (d.place ≡ p)) ⊎ ¬ Mem p (record_places cs)
        → ((d : Record) × Mem d (c ∷ cs) × (d.place ≡ p)) ⊎ ¬ Mem p (record_places (c ∷ cs))
    by (yes e) rest = inl (c, here, e)
    by (no n) (inl (d, m, e)) = inl (d, there m, e)
    by (no n) (inr never) = inr (λ m. elim (mem_cases m) [ inl e ↦ n e | inr k ↦ never k ])

symbol_below : (size : ℕ) (vs : List ℕ) (i : ℕ) → AllByRecursion (λ v. v < size) vs → i < length vs → get_or vs i 0 < size
symbol_below size [] i h l = absurd (omega arith)
symbol_below size (v ∷ vs) zero h l = h.0
symbol_below size (v ∷ vs) (suc i) h l = symbol_below size vs i h.1 (omega arith)

-- A list taken apart at one of its members.
module _ {I : Type 0} where
  pub record SplitAt (x : I) (ys : List I) : Type 0 where
    pub front : List I
    pub back : List I
    pub whole : ys ≡ front ++ x ∷ back

  split_at : {x : I} (ys : List I) → Mem x ys → SplitAt x ys
  split_at [] m = elim m [ ]
  split_at (y ∷ ys) here = record { front = []; back = ys; whole = refl }
  split_at (y ∷ ys) (there m) = let s = split_at ys m in record { front = y ∷ s.front; back = s.back; whole = ap (λ zs. y ∷ zs) s.whole }

  mem_middle : (x : I) (us vs : List I) → Mem x (us ++ x ∷ vs)
  mem_middle x [] vs = here
  mem_middle x (u ∷ us) vs = there (mem_middle x us vs)

  mem_more : (x : I) (us vs : List I) {y : I} → Mem y (us ++ vs) → Mem y (us ++ x ∷ vs)
  mem_more x [] vs m = there m
  mem_more x (u ∷ us) vs here = here
  mem_more x (u ∷ us) vs (there m) = there (mem_more x us vs m)

  mem_out : (x : I) (us vs : List I) {y : I} → Mem y (us ++ x ∷ vs) → (x ≡ y) ⊎ Mem y (us ++ vs)
  mem_out x [] vs m = mem_cases m
  mem_out x (u ∷ us) vs here = inr here
  mem_out x (u ∷ us) vs (there m) = elim (mem_out x us vs m) [ inl e ↦ inl e | inr k ↦ inr (there k) ]

place_mem : {p : ℕ} (cs : List Record) → Mem p (record_places cs) → (c : Record) × Mem c cs × (c.place ≡ p)
place_mem [] m = elim m [ ]
place_mem (c ∷ cs) here = (c, here, refl)
place_mem (c ∷ cs) (there m) = let r = place_mem cs m in (r.0, there r.1, r.2)

-- one record less of records of distinct places
one_less : (c : Record) (us vs : List Record) → HasNoRepeat (record_places (us ++ c ∷ vs))
    → HasNoRepeat (record_places (us ++ vs)) × ¬ Mem c.place (record_places (us ++ vs))
one_less c [] vs apart = (apart.1, λ m. all_at (λ q. ¬ (c.place ≡ q)) (record_places vs) apart.0 m refl)
one_less c (u ∷ us) vs apart =
    let rest = one_less c us vs apart.1 in
    let away : (d : Record) → Mem d (us ++ c ∷ vs) → ¬ (u.place ≡ d.place) =
    λ d m. all_at (λ q. ¬ (u.place ≡ q)) (record_places (us ++ c ∷ vs)) apart.0 (mem_place m) in (
      (all_from (λ q. ¬ (u.place ≡ q)) (record_places (us ++ vs)) (λ q m. let d = place_mem (us ++ vs) m in λ e. away d.0 (mem_more c us vs d.1) (e ∙ sym d.2)), rest.0),
      λ m. elim (mem_cases m) [ inl e ↦ away c (mem_middle c us vs) e | inr k ↦ rest.1 k ],
    )

-- records of distinct places that are the same are the same in some order
permuted : (cs ds : List Record) → HasNoRepeat (record_places cs) → HasNoRepeat (record_places ds)
    → ((c : Record) → Mem c cs → Mem c ds) → ((c : Record) → Mem c ds → Mem c cs) → IsPermutation cs ds
permuted [] [] a b f g = IsPermutation-refl []
permuted [] (d ∷ ds) a b f g = absurd (elim (g d here) [ ])
permuted (c ∷ cs) ds a b f g =
    let s = split_at ds (f c here) in
    by (λ es. permuted cs es) s.front s.back s.whole
  where
    by : ((es : List Record) → HasNoRepeat (record_places cs) → HasNoRepeat (record_places es) → ((x : Record) → Mem x cs → Mem x es) → ((x : Record) → Mem x es → Mem x cs) → IsPermutation cs es)
        → (us vs : List Record) → ds ≡ us ++ c ∷ vs → IsPermutation (c ∷ cs) ds
    by rest us vs e =
        let less = one_less c us vs (subst (λ es. HasNoRepeat (record_places es)) e b) in
        let forth : (x : Record) → Mem x cs → Mem x (us ++ vs) =
        λ x m. elim (mem_out c us vs (subst (Mem x) e (f x (there m)))) [
          | inl q ↦ absurd (all_at (λ p. ¬ (c.place ≡ p)) (record_places cs) a.0 (mem_place m) (ap (λ (r : Record). r.place) q))
          | inr k ↦ k
        ] in
        let back : (x : Record) → Mem x (us ++ vs) → Mem x cs =
        λ x m. elim (mem_cases (g x (subst (Mem x) (sym e) (mem_more c us vs m)))) [
          | inl q ↦ absurd (less.1 (subst (λ p. Mem p (record_places (us ++ vs))) (sym (ap (λ (r : Record). r.place) q)) (mem_place m)))
          | inr k ↦ k
        ] in
        subst (IsPermutation (c ∷ cs)) (sym e)
        (IsPermutation-trans _ _ _ (IsPermutation-cons c cs (us ++ vs) (rest (us ++ vs) a.1 less.0 forth back)) (IsPermutation-sym _ _ (IsPermutation-middle us c vs)))

module _ (C : NumericCode) where
  -- a place that no record names keeps its symbol
  row_less_past : (cs : List Record) (vs : List ℕ) (p : ℕ) → ¬ Mem p (record_places cs) → get_or (row_less C cs vs) p 0 ≡ get_or vs p 0
  row_less_past [] vs p never = refl
  row_less_past (c ∷ cs) vs p never =
      let v = C.sub (get_or vs c.place 0) c.change in
      row_less_past cs (set vs c.place v) p (λ m. never (there m))
      ∙ get_or-set_other vs c.place p v 0 (λ e. never (subst (λ q. Mem p (q ∷ record_places cs)) e here))

  -- of a place that one record names its change is subtracted
  row_less_at : (cs : List Record) (vs : List ℕ) {c : Record} → HasNoRepeat (record_places cs) → Mem c cs → c.place < length vs
      → get_or (row_less C cs vs) c.place 0 ≡ C.sub (get_or vs c.place 0) c.change
  row_less_at [] vs apart m l = elim m [ ]
  row_less_at (c ∷ cs) vs apart here l =
      let v = C.sub (get_or vs c.place 0) c.change in
      row_less_past cs (set vs c.place v) c.place (λ m. all_at (λ q. ¬ (c.place ≡ q)) (record_places cs) apart.0 m refl)
      ∙ get_or-set_same vs c.place v 0 l
  row_less_at (d ∷ cs) vs {c} apart (there m) l =
      let v = C.sub (get_or vs d.place 0) d.change in
      row_less_at cs (set vs d.place v) apart.1 m (omega (arith, length-set vs d.place v))
      ∙ ap (λ x. C.sub x c.change) (get_or-set_other vs d.place c.place v 0 (λ e. all_at (λ q. ¬ (d.place ≡ q)) (record_places cs) apart.0 (mem_place m) (sym e)))

  module _ (law : IsLawful C) (b : Book) (below : AllByRecursion (λ v. v < C.size) (row b)) where
    module _ (cs ds : List Record) (f : Fits C b cs) (g : Fits C b ds) (same : row_less C cs (row b) ≡ row_less C ds (row b)) where
      in_both : (c : Record) → Mem c cs → Mem c ds
      in_both c m = elim (find_at c.place ds) [ inl (d, k, e) ↦ subst (λ r. Mem r ds) (alike d k e) k | inr never ↦ absurd (unnamed never) ]
        where
          on_slip : c.place < length (row b)
          on_slip = let h = all_at (λ p. p < length b) (record_places cs) f.on_slip (mem_place m) in omega (arith, h, length-map b (λ a. a.symbol))

          x : ℕ
          x = get_or (row b) c.place 0

          back : (y : ℕ) → y < C.size → C.sub x (C.sub x y) ≡ y
          back y l = law.sub_back x y (symbol_below C.size (row b) c.place below on_slip) l

          here_less : get_or (row_less C ds (row b)) c.place 0 ≡ C.sub x c.change
          here_less = ap (λ vs. get_or vs c.place 0) (sym same) ∙ row_less_at cs (row b) f.distinct m on_slip

          symbol : c.change < C.size
          symbol = all_at (λ (r : Record). r.change < C.size) cs f.symbols m

          alike : (d : Record) → Mem d ds → d.place ≡ c.place → d ≡ c
          alike d k e =
              let there_less : get_or (row_less C ds (row b)) c.place 0 ≡ C.sub x d.change =
              subst (λ p. get_or (row_less C ds (row b)) p 0 ≡ C.sub (get_or (row b) p 0) d.change) e (row_less_at ds (row b) g.distinct k (subst (λ p. p < length (row b)) (sym e) on_slip)) in
              let changed : d.change ≡ c.change =
              sym (back d.change (all_at (λ (r : Record). r.change < C.size) ds g.symbols k)) ∙ ap (C.sub x) (sym there_less ∙ here_less) ∙ back c.change symbol in
              ap₂ (λ p v. record { place = p; change = v }) e changed

          unnamed : ¬ Mem c.place (record_places ds) → ⊥
          unnamed never =
              let kept : C.sub x c.change ≡ x = sym here_less ∙ row_less_past ds (row b) c.place never in
              let nothing : c.change ≡ C.zero = sym (back c.change symbol) ∙ ap (C.sub x) kept ∙ law.sub_itself x in
              by (doubted_at c.place b) refl nothing
            where
              by : (t : Bool) → doubted_at c.place b ≡ t → c.change ≡ C.zero → ⊥
              by true q z = never (g.doubted c.place q)
              by false q z = all_at (λ (r : Record). doubted_at r.place b ≡ false → ¬ (r.change ≡ C.zero)) cs f.changed m q z

    -- two patterns that lead to one row have the same records
    one_pattern : (cs ds : List Record) → Fits C b cs → Fits C b ds → row_less C cs (row b) ≡ row_less C ds (row b) → IsPermutation cs ds
    one_pattern cs ds f g same = permuted cs ds f.distinct g.distinct (in_both cs ds f g same) (in_both ds cs g f (sym same))

    pub only_pattern : (n : List ℕ) → length b ≤ C.limit → IsNear C b n → IsOnlyPattern C b n (changes C b n)
    only_pattern n short near =
        let f = changes_fit C law b n below near in
        let leads = changes_subtracted C law b n below near in
        record {
          fits = f;
          subtracted = leads;
          only = λ ds g. one_pattern ds (changes C b n) g f (one_near_row C law b (row_less C ds (row b)) n short (fits_near C b ds g) near ∙ sym leads);
        }
