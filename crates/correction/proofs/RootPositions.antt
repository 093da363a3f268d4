-- The positions of a locator's roots, in the order in which a search by ascending index finds them: index 0 is
-- position 0, and from then on positions fall.
--   Falls m ps        each position is below the one before it, the first below m
--   zero_first ps     position 0 first, if it is listed, then the others in their order
use Rattle.std.specs.List.{AllByRecursion, filter, range_with_len}
use Rattle.std.proofs.Common.{◌≡◌, ℕ, zero, suc, ◌+◌, ◌-◌, ◌<◌, ◌≤◌, Bool, true, false, cond, not, ◌⊎◌, List, [], ◌∷◌, ◌++◌, map, length, take, drop, sym, refl, ap, ◌∙◌, subst, ap₂, inl, inr, add-one, arith}
use Rattle.std.proofs.lemmas.List.{length-append, length-take-le}
use Rattle.std.proofs.lemmas.Bool.{cases_lt}
use Rattle.algebra.specs.Code.{Code, IsLawfulCode}
use Rattle.algebra.specs.Decode.{root_position}
use Rattle.algebra.specs.Field.{FieldOn, HasOrder, IsEmbedding, pow}
use Rattle.algebra.specs.Poly.{eval}
use Rattle.algebra.specs.Rows.{BookOf, IsNearRow, error_positions, found_locator, IsRoot, positions, wrong_places}
use Rattle.algebra.proofs.Decided.{is_no}
use Rattle.algebra.specs.Series.{Mem, here, there}
use Rattle.algebra.proofs.Changes.{length_wrong}
use Rattle.algebra.proofs.Chien.{root_is_inverse}
use Rattle.algebra.proofs.Flags.{positions_below}
use Rattle.algebra.proofs.Members.{all_append, all_at, all_from}
use Rattle.algebra.proofs.Mended.{mends}
use Rattle.algebra.proofs.Orders.{powers_apart}
use Rattle.lists.specs.Roots.{is_root, roots}

abbrev pub Falls : ℕ → List ℕ → Type 0
Falls m [] = Unit {0}
Falls m (p ∷ ps) = (p < m) × Falls p ps

abbrev pub zeros : List ℕ → List ℕ
zeros [] = []
zeros (zero ∷ ps) = zero ∷ zeros ps
zeros (suc p ∷ ps) = zeros ps

abbrev pub others : List ℕ → List ℕ
others [] = []
others (zero ∷ ps) = others ps
others (suc p ∷ ps) = suc p ∷ others ps

abbrev pub zero_first : List ℕ → List ℕ
zero_first ps = zeros ps ++ others ps

pub falls_weaker : (m k : ℕ) (ps : List ℕ) → m ≤ k → Falls m ps → Falls k ps
falls_weaker m k [] h f = tt
falls_weaker m k (p ∷ ps) h f = let l = f.0 in (omega arith, f.1)

member_cons : {p q : ℕ} {ps : List ℕ} → Mem q (p ∷ ps) → (q ≡ p) ⊎ Mem q ps
member_cons here = inl refl
member_cons (there m) = inr m

falls_below : (m : ℕ) (ps : List ℕ) {q : ℕ} → Falls m ps → Mem q ps → q < m
falls_below m [] f q = elim q [ ]
falls_below m (p ∷ ps) f here = f.0
falls_below m (p ∷ ps) {q} f (there h) = let l = f.0 in let k : q < p = falls_below p ps f.1 h in omega arith

pub positions_fall : (fs : List Bool) → Falls (length fs) (positions fs)
positions_fall [] = tt
positions_fall (true ∷ fs) = (omega arith, positions_fall fs)
positions_fall (false ∷ fs) = falls_weaker (length fs) (length (false ∷ fs)) (positions fs) (omega arith) (positions_fall fs)

-- position 0 is the last flag, and the others are those before it
pub zeros_positions : (fs : List Bool) → zeros (positions fs) ≡ positions (drop (length fs - 1) fs)
zeros_positions [] = refl
zeros_positions (f ∷ fs) = let last : length fs ≡ length (f ∷ fs) - 1 = omega arith in by f fs (length fs) refl ∙ ap (λ k. positions (drop k (f ∷ fs))) last
  where
    by : (f : Bool) (fs : List Bool) (m : ℕ) → length fs ≡ m → zeros (positions (f ∷ fs)) ≡ positions (drop m (f ∷ fs))
    by true [] zero h = refl
    by false [] zero h = refl
    by f [] (suc m) h = absurd (omega arith)
    by f (g ∷ fs) zero h = absurd (omega arith)
    by true (g ∷ fs) (suc m) h = by g fs m (omega arith)
    by false (g ∷ fs) (suc m) h = by g fs m (omega arith)

pub others_positions : (fs : List Bool) → others (positions fs) ≡ map suc (positions (take (length fs - 1) fs))
others_positions [] = refl
others_positions (f ∷ fs) = let last : length fs ≡ length (f ∷ fs) - 1 = omega arith in by f fs (length fs) refl ∙ ap (λ k. map suc (positions (take k (f ∷ fs)))) last
  where
    by : (f : Bool) (fs : List Bool) (m : ℕ) → length fs ≡ m → others (positions (f ∷ fs)) ≡ map suc (positions (take m (f ∷ fs)))
    by true [] zero h = refl
    by false [] zero h = refl
    by f [] (suc m) h = absurd (omega arith)
    by f (g ∷ fs) zero h = absurd (omega arith)
    by true (g ∷ fs) (suc m) h =
        let whole : m ≤ length (g ∷ fs) = omega arith in
        let l = length-take-le m (g ∷ fs) whole in
        ap₂ ◌∷◌ (omega arith) (by g fs m (omega arith))
    by false (g ∷ fs) (suc m) h = by g fs m (omega arith)

falls_others : (m : ℕ) (ps : List ℕ) → Falls m ps → Falls m (others ps)
falls_others m [] f = tt
falls_others m (zero ∷ ps) f = falls_weaker 0 m (others ps) (omega arith) (falls_others 0 ps f.1)
falls_others m (suc p ∷ ps) f = (f.0, falls_others (suc p) ps f.1)

others_listed : (ps : List ℕ) {q : ℕ} → Mem q (others ps) → Mem q ps
others_listed [] m = m
others_listed (zero ∷ ps) m = there (others_listed ps m)
others_listed (suc p ∷ ps) here = here
others_listed (suc p ∷ ps) (there m) = there (others_listed ps m)

others_positive : (ps : List ℕ) → AllByRecursion (λ q. 0 < q) (others ps)
others_positive [] = tt
others_positive (zero ∷ ps) = others_positive ps
others_positive (suc p ∷ ps) = (omega arith, others_positive ps)

listed_others : (ps : List ℕ) {q : ℕ} → 0 < q → Mem q ps → Mem q (others ps)
listed_others [] h m = m
listed_others (zero ∷ ps) h here = absurd (omega arith)
listed_others (zero ∷ ps) h (there m) = listed_others ps h m
listed_others (suc p ∷ ps) h here = here
listed_others (suc p ∷ ps) h (there m) = there (listed_others ps h m)

pub all_zero_first : (P : ℕ → Type 0) (ps : List ℕ) → AllByRecursion P ps → AllByRecursion P (zero_first ps)
all_zero_first P ps h = all_append P (zeros ps) (others ps) (in_zeros ps h) (in_others ps h)
  where
    in_zeros : (ps : List ℕ) → AllByRecursion P ps → AllByRecursion P (zeros ps)
    in_zeros [] h = tt
    in_zeros (zero ∷ ps) h = (h.0, in_zeros ps h.1)
    in_zeros (suc p ∷ ps) h = in_zeros ps h.1

    in_others : (ps : List ℕ) → AllByRecursion P ps → AllByRecursion P (others ps)
    in_others [] h = tt
    in_others (zero ∷ ps) h = in_others ps h.1
    in_others (suc p ∷ ps) h = (h.0, in_others ps h.1)

pub length_zero_first : (ps : List ℕ) → length (zero_first ps) ≡ length ps
length_zero_first ps = length-append (zeros ps) (others ps) ∙ by ps
  where
    by : (ps : List ℕ) → length (zeros ps) + length (others ps) ≡ length ps
    by [] = omega arith
    by (zero ∷ ps) = let h = by ps in omega arith
    by (suc p ∷ ps) = let h = by ps in omega arith

zeros_listed : (m : ℕ) (ps : List ℕ) → Falls m ps → Mem zero ps → zeros ps ≡ 0 ∷ []
zeros_listed m [] f q = elim q [ ]
zeros_listed m (zero ∷ []) f q = refl
zeros_listed m (zero ∷ p ∷ ps) f q = let l : p < 0 = f.1.0 in absurd (omega arith)
zeros_listed m (suc p ∷ ps) f (there q) = zeros_listed (suc p) ps f.1 q

zeros_none : (ps : List ℕ) → ¬ Mem zero ps → zeros ps ≡ []
zeros_none [] h = refl
zeros_none (zero ∷ ps) h = absurd (h here)
zeros_none (suc p ∷ ps) h = zeros_none ps (λ m. h (there m))

-- ps lists the positions from 1 to k at which R holds
record Lists (R : ℕ → Type 0) (k : ℕ) (ps : List ℕ) : Type 0 where
  falls : Falls (suc k) ps
  positive : AllByRecursion (λ q. 0 < q) ps
  holds : (q : ℕ) → Mem q ps → R q
  no_other : (q : ℕ) → 0 < q → q < suc k → R q → Mem q ps

module _ (R : ℕ → Type 0) (k : ℕ) where
  lists_less : (ps : List ℕ) → Lists R (suc k) ps → ¬ R (suc k) → Lists R k ps
  lists_less ps l no-root = record {
    falls = lower ps l.falls (λ q m. l.holds q m);
    positive = l.positive;
    holds = l.holds;
    no_other = λ q h b r. l.no_other q h (omega arith) r;
  }
    where
      lower : (ps : List ℕ) → Falls (suc (suc k)) ps → ((q : ℕ) → Mem q ps → R q) → Falls (suc k) ps
      lower [] f h = tt
      lower (p ∷ ps) f h =
          let b = f.0 in
          let another : ¬ (p ≡ suc k) = λ e. no-root (subst R e (h p here)) in
          (omega arith, f.1)

  lists_found : (p : ℕ) (ps : List ℕ) → Lists R (suc k) (p ∷ ps) → R (suc k) → (p ≡ suc k) × Lists R k ps
  lists_found p ps l root = (
    same,
    record {
      falls = subst (λ m. Falls m ps) same l.falls.1;
      positive = l.positive.1;
      holds = λ q m. l.holds q (there m);
      no_other = λ q h b r. later q b (member_cons (l.no_other q h (omega arith) r));
    },
  )
    where
      first : (suc k ≡ p) ⊎ Mem (suc k) ps → p ≡ suc k
      first (inl e) = sym e
      first (inr m) = let b = l.falls.0 in let c : suc k < p = falls_below p ps l.falls.1 m in absurd (omega arith)

      same : p ≡ suc k
      same = first (member_cons (l.no_other (suc k) (omega arith) (omega arith) root))

      later : (q : ℕ) → q < suc k → (q ≡ p) ⊎ Mem q ps → Mem q ps
      later q b (inl e) = let f = same in absurd (omega arith)
      later q b (inr m) = m

abbrev pick : {P : Type 0} → Dec P → ℕ → List ℕ → List ℕ
pick (yes h) i js = i ∷ js
pick (no h) i js = js

picked : {P : Type 0} (d : Dec P) (i : ℕ) (js : List ℕ) → cond (not (is_no d)) (i ∷ js) js ≡ pick d i js
picked (yes h) i js = refl
picked (no h) i js = refl

module _ {A : Type 0} (F : FieldOn A) (a : A) (ord : ℕ) (o : HasOrder F a ord) (p : List A) where
  open F use {𝟘, inv}

  -- the indices of roots among the k from i on
  abbrev roots_from : ℕ → ℕ → List ℕ
  roots_from i k = filter (is_root F p a) (range_with_len i k)

  first_root : (i k : ℕ) → roots_from i (suc k) ≡ pick (F.dec_eq (eval F p (pow F a i)) 𝟘) i (roots_from (suc i) k)
  first_root i k =
      ap (λ j. cond (is_root F p a i) (i ∷ roots_from j k) (roots_from j k)) (add-one i)
      ∙ picked (F.dec_eq (eval F p (pow F a i)) 𝟘) i (roots_from (suc i) k)

  -- the locator of q is the inverse of a root
  abbrev Root : ℕ → Type 0
  Root q = eval F p (inv (pow F a q)) ≡ 𝟘

  root_at : (i q : ℕ) → i < ord → root_position ord i ≡ q → eval F p (pow F a i) ≡ 𝟘 → Root q
  root_at i q h e z = sym (ap (eval F p) (root_is_inverse F a ord i o h ∙ ap (λ k. inv (pow F a k)) e)) ∙ z

  no_root_at : (i q : ℕ) → i < ord → root_position ord i ≡ q → ¬ (eval F p (pow F a i) ≡ 𝟘) → ¬ Root q
  no_root_at i q h e n z = n (ap (eval F p) (root_is_inverse F a ord i o h ∙ ap (λ k. inv (pow F a k)) e) ∙ z)

  -- with k indices left, the position of the next is k
  falling_positions : (k i : ℕ) → suc i + k ≡ ord → (ps : List ℕ) → Lists Root k ps → map (root_position ord) (roots_from (suc i) k) ≡ ps
  falling_positions zero i h [] l = refl
  falling_positions zero i h (q ∷ ps) l = let b = l.falls.0 in let c = l.positive.0 in absurd (omega arith)
  falling_positions (suc k) i h ps l =
      ap (map (root_position ord)) (first_root (suc i) k)
      ∙ by (F.dec_eq (eval F p (pow F a (suc i))) 𝟘) ps l (falling_positions k (suc i) (omega arith))
    where
      next : root_position ord (suc i) ≡ suc k
      next = omega arith

      by : (d : Dec (eval F p (pow F a (suc i)) ≡ 𝟘)) (ps : List ℕ) → Lists Root (suc k) ps
          → ((qs : List ℕ) → Lists Root k qs → map (root_position ord) (roots_from (suc (suc i)) k) ≡ qs)
          → map (root_position ord) (pick d (suc i) (roots_from (suc (suc i)) k)) ≡ ps
      by (yes z) [] l ih = elim (l.no_other (suc k) (omega arith) (omega arith) (root_at (suc i) (suc k) (omega arith) next z)) [ ]
      by (yes z) (q ∷ qs) l ih =
          let found = lists_found Root k q qs l (root_at (suc i) (suc k) (omega arith) next z) in
          ap₂ ◌∷◌ (next ∙ sym found.0) (ih qs found.1)
      by (no n) ps l ih = ih ps (lists_less Root k ps l (no_root_at (suc i) (suc k) (omega arith) next n))

  -- where exactly the listed positions below the order are roots, the search lists them with position 0 first
  pub root_positions : (ps : List ℕ) → Falls ord ps → ((q : ℕ) → Mem q ps → Root q) → ((q : ℕ) → q < ord → Root q → Mem q ps)
      → map (root_position ord) (roots F p a ord) ≡ zero_first ps
  root_positions ps falls holds no_other = by ord refl o.positive
    where
      rest : (k : ℕ) → suc k ≡ ord → map (root_position ord) (roots_from 1 k) ≡ others ps
      rest k h = falling_positions k 0 (omega arith) (others ps) (record {
        falls = subst (λ m. Falls m (others ps)) (sym h) (falls_others ord ps falls);
        positive = others_positive ps;
        holds = λ q m. holds q (others_listed ps m);
        no_other = λ q b c r. listed_others ps b (no_other q (omega arith) r);
      })

      first : (k : ℕ) → suc k ≡ ord → (d : Dec (eval F p (pow F a 0) ≡ 𝟘)) → map (root_position ord) (pick d 0 (roots_from 1 k)) ≡ zero_first ps
      first k h (yes z) = ap₂ ◌++◌ (sym (zeros_listed ord ps falls (no_other 0 o.positive (root_at 0 0 o.positive refl z)))) (rest k h)
      first k h (no n) = ap₂ ◌++◌ (sym (zeros_none ps (λ m. no_root_at 0 0 o.positive refl n (holds 0 m)))) (rest k h)

      by : (k : ℕ) → k ≡ ord → 0 < k → map (root_position ord) (roots F p a k) ≡ zero_first ps
      by zero h b = absurd (omega arith)
      by (suc k) h b = ap (map (root_position ord)) (first_root 0 k) ∙ first k h (F.dec_eq (eval F p (pow F a 0)) 𝟘)

module _ {S E : Type 0} (s : FieldOn S) (e : FieldOn E) (up : S → E) (L : IsEmbedding s e up) (C : Code S E) (lawful : IsLawfulCode s e up C) (ord : ℕ) (o : HasOrder e C.root ord) where
  -- a row within the limit is not longer than the order
  pub limit_in_order : C.limit ≤ ord
  limit_in_order = by (cases_lt ord C.limit)
    where
      by : (ord < C.limit) ⊎ (C.limit ≤ ord) → C.limit ≤ ord
      by (inl h) = absurd (lawful.limit_order ord o.positive h o.returns)
      by (inr h) = h

  module _ (b : BookOf S) (n : List S) (short : length b ≤ C.limit) (near : IsNearRow s C b n) where
    below : AllByRecursion (λ q. q < C.limit) (error_positions s e up C b n)
    below = let l = length_wrong s b n near.same_length in positions_below (wrong_places s.dec_eq b n) C.limit (omega arith)

    no_root_past : (q : ℕ) → q < ord → C.limit ≤ q → ¬ IsRoot s e up C b q
    no_root_past q h past =
        let errs = error_positions s e up C b n in
        let within = limit_in_order in
        (mends s e up L C lawful b n short near).apart q (all_from (λ r. ¬ (pow e C.root q ≡ pow e C.root r)) errs (λ r m same.
        let k = all_at (λ t. t < C.limit) errs below m in
        let one = powers_apart e C.root ord o q r h (omega arith) same in
        omega arith))

    root_listed : (q : ℕ) → q < ord → IsRoot s e up C b q → Mem q (error_positions s e up C b n)
    root_listed q h z = by (cases_lt q C.limit)
      where
        by : (q < C.limit) ⊎ (C.limit ≤ q) → Mem q (error_positions s e up C b n)
        by (inl k) = (mends s e up L C lawful b n short near).no_other q k z
        by (inr k) = absurd (no_root_past q h k z)

    -- the search finds the error positions of a near book, position 0 first
    pub near_root_positions : map (root_position ord) (roots e (found_locator s e up C b) C.root ord) ≡ zero_first (error_positions s e up C b n)
    near_root_positions =
        let fs = wrong_places s.dec_eq b n in
        let l = length_wrong s b n near.same_length in
        let within = limit_in_order in
        root_positions e C.root ord o (found_locator s e up C b) (error_positions s e up C b n)
        (falls_weaker (length fs) ord (positions fs) (omega arith) (positions_fall fs)) (mends s e up L C lawful b n short near).root root_listed
