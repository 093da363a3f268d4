-- What is proposed by what decoding finds.
--   refused_doubts, refused_errors   where all changes are told, neither of the two tests stops the search
--   refused_erasures, refused_rest   nor is a record refused
--   all_proposed                     the records are the doubted places' and then the errors'
use Rattle.std.specs.List.{AllByRecursion}
use Rattle.std.proofs.Common.{◌≡◌, ℕ, ◌+◌, ◌-◌, ◌*◌, ◌<◌, Bool, List, [], ◌++◌, map, length, Some, None, Option, sym, ap, ◌∙◌, subst, ap₂, arith}
use Rattle.std.proofs.lemmas.Option.{none-some}
use Rattle.algebra.specs.Decode.{errata_locator, errata_evaluator, root_position}
use Rattle.algebra.specs.Field.{FieldOn, Enumeration, HasOrder, pow}
use Rattle.algebra.specs.Poly.{coeff, eval}
use Rattle.algebra.specs.Rows.{count_true, positions}
use Rattle.algebra.specs.Series.{deriv}
use Rattle.algebra.proofs.Flags.{length_positions}
use Rattle.algebra.proofs.Members.{all_map}
use Rattle.correction.specs.declared.pattern.Pattern.{Pattern}
use Rattle.book.specs.declared.record.Record.{Record}
use Rattle.lists.specs.Roots.{roots}
use Rattle.correction.specs.Steps.Decoded.{located_list, TellsChange, found_positions, IsComplete, Tells}
use Rattle.correction.specs.Steps.Forney.{HasValue}
use Rattle.correction.specs.Steps.Listing.{IsOnRow, Lists, record_of}
use Rattle.correction.proofs.Onward.{both_listed}

module _ {E S : Type 0} {F : FieldOn E} {up : S → E} {N : Enumeration S} where
  open F use {mul as ◌⊗◌, neg as ⊖◌, inv}

  infixl 70 ◌⊗◌
  infix 80 ⊖◌
  -- lists with the same values tell the same changes
  valued_same : (W V D G : List E) (a : E) (first p y : ℕ) → ((x : E) → eval F W x ≡ eval F V x) → ((x : E) → eval F D x ≡ eval F G x)
      → HasValue F up N V G a first p y → HasValue F up N W D a first p y
  valued_same W V D G a first p y ew ed v =
      let x = pow F a p in
      record {
        sloped = λ z. v.sloped (sym (ed (inv x)) ∙ z);
        symbol = v.symbol;
        number = v.number;
        value = v.value ∙ sym (ap₂ (λ t u. ⊖ (x ⊗ t) ⊗ inv u ⊗ inv (pow F x first)) (ew (inv x)) (ed (inv x)));
      }

  pub tells_at : {s : List E} {ms marks : List Bool} {a b : E} {first k : ℕ} {r : Option Pattern} → ms ≡ marks → a ≡ b → first ≡ k
      → Tells F up N s ms a first r → Tells F up N s marks b k r
  tells_at {s} {ms} {marks} {a} {b} {first} {k} {r} em ea ek tells =
      subst (λ i. Tells F up N s marks b i r) ek (subst (λ x. Tells F up N s marks x first r) ea (subst (λ fs. Tells F up N s fs a first r) em tells))

  module _ {s : List E} {marks : List Bool} {a : E} {first : ℕ} where
    pub refused_doubts : {r : Option Pattern} → length s < count_true marks → Tells F up N s marks a first r
    refused_doubts many = record { records = λ n Y complete. absurd (omega (arith, length_positions marks, complete.within)) }

    pub refused_errors : {errors : List E} {r : Option Pattern} → errors ≡ located_list F up N s marks a first → length s < 2 * (length errors - 1) + count_true marks → Tells F up N s marks a first r
    refused_errors is many = record { records = λ n Y complete. absurd (omega (arith, ap length is, length_positions marks, complete.within)) }

    -- W and D have the values of the evaluator and of the errata locator's derivative, and the first records are listed
    module _ (W D : List E) (ew : (x : E) → eval F W x ≡ eval F (errata_evaluator F (pow F a) (positions marks) (coeff F s) (length s)) x)
        (ed : (x : E) → eval F D x ≡ eval F (deriv F (errata_locator F (pow F a) (positions marks) (coeff F s) (length s))) x)
        {before between : List Record} {r : Option (Unit {0})} (fresh : before ≡ []) (erasures : Lists (HasValue F up N W D a first) (length marks) (positions marks) before r between) where
      -- they tell the changes that decoding tells
      module _ {n : ℕ} {Y : ℕ → ℕ} (complete : IsComplete F up N s marks a first n Y) where
        change : (p : ℕ) → TellsChange F up N s marks a first p (Y p) → HasValue F up N W D a first p (Y p)
        change p = valued_same W _ D _ a first p (Y p) ew ed

        doubted : AllByRecursion (λ p. HasValue F up N W D a first p (Y p)) (positions marks)
        doubted = all_map (λ p. TellsChange F up N s marks a first p (Y p)) (λ p. HasValue F up N W D a first p (Y p)) change (positions marks) complete.doubted

        all_listed : {errors : List E} {after : List Record} {t : Option (Unit {0})} → errors ≡ located_list F up N s marks a first
            → ((m : ℕ) → HasOrder F a m → Lists (IsOnRow (length marks) (HasValue F up N W D a first)) (length marks) (map (root_position m) (roots F errors a m)) between t after)
            → (t ≡ Some tt) × (after ≡ map (record_of (length marks) Y) (positions marks) ++ map (record_of (length marks) Y) (found_positions F up N s marks a first n))
        all_listed {errors} {after} {t} e rest =
            let Change = HasValue F up N W D a first in
            let qs = found_positions F up N s marks a first n in
            let both = both_listed Change (IsOnRow (length marks) Change) (length marks) (positions marks) qs between after r t Y
            (subst (λ hs. Lists Change (length marks) (positions marks) hs r between) fresh erasures)
            (subst (λ c. Lists (IsOnRow (length marks) Change) (length marks) (map (root_position n) (roots F c a n)) between t after) e (rest n complete.order))
            doubted
            (all_map (λ p. IsOnRow (length marks) (TellsChange F up N s marks a first) p (Y p)) (λ p. IsOnRow (length marks) Change p (Y p)) (λ p h. (h.0, change p h.1)) qs complete.errors)
            complete.few in
            (both.1, both.2)

      pub refused_erasures : r ≡ None → {t : Option Pattern} → Tells F up N s marks a first t
      refused_erasures none = record {
        records = λ n Y complete.
            let few = complete.few in
            let empty = ap length fresh in
            absurd (none-some tt (sym none ∙ (erasures Y record { changes = doubted complete; room = omega arith }).0));
      }

      module _ {errors : List E} {after : List Record} {t : Option (Unit {0})} (e : errors ≡ located_list F up N s marks a first)
          (rest : (m : ℕ) → HasOrder F a m → Lists (IsOnRow (length marks) (HasValue F up N W D a first)) (length marks) (map (root_position m) (roots F errors a m)) between t after) where
        pub refused_rest : t ≡ None → {u : Option Pattern} → Tells F up N s marks a first u
        refused_rest none = record { records = λ n Y complete. absurd (none-some tt (sym none ∙ (all_listed complete e rest).0)) }

        pub all_proposed : Tells F up N s marks a first (Some after)
        all_proposed = record { records = λ n Y complete. ap Some (all_listed complete e rest).1 }
