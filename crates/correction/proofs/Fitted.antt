-- What the checker finds out is that a pattern fits.
use Rattle.std.specs.List.{AllByRecursion}
use Rattle.std.proofs.Common.{◌≡◌, ℕ, ◌<◌, Bool, false, List, [], ◌∷◌, map, length, Decides, sym, refl, ap, ◌∙◌, subst}
use Rattle.std.specs.List as std
use Rattle.algebra.specs.Code.{Code, residue}
use Rattle.algebra.specs.Field.{FieldOn, Enumeration}
use Rattle.algebra.specs.Series.{Mem}
use Rattle.algebra.proofs.Members.{all_at, all_from, all_map}
use Rattle.book.specs.Book.{Book, doubted_at, row, undoubted_place}
use Rattle.algebra.specs.NumericCode.{NumericCode, numeric_code}
use Rattle.book.specs.Codes.{IsSound}
use Rattle.book.specs.Mending.{HasNoRepeat, Fits, record_places, row_less}
use Rattle.book.specs.declared.record.Record.{Record}
use Rattle.book.proofs.Fitting.{all_places}
use Rattle.book.proofs.Numbers.{elements_sound, sound_elements}
use Rattle.correction.specs.MendingSteps.Checked.{Admits, IsFormed, IsSensible}
use Rattle.slip.specs.View.{IsHoldable}
use Rattle.slip.proofs.Below.{row_below}
use Rattle.book.proofs.Rows.{row_sure}
use Rattle.correction.proofs.Lessening.{at_each}

module _ (b : Book) (size nothing : ℕ) where
  all_admitted : (cs : List Record) → IsSensible b size nothing cs → AllByRecursion (Admits b size nothing) cs
  all_admitted [] s = tt
  all_admitted (c ∷ cs) s = (s.0, all_admitted cs s.2)

  different : (cs : List Record) → IsSensible b size nothing cs → HasNoRepeat (record_places cs)
  different [] s = tt
  different (c ∷ cs) s = (all_from (λ q. ¬ (c.place ≡ q)) (record_places cs) (λ q m e. s.1 (subst (λ p. Mem p (record_places cs)) (sym e) m)), different cs s.2)

  sensible : (cs : List Record) → HasNoRepeat (record_places cs) → AllByRecursion (Admits b size nothing) cs → IsSensible b size nothing cs
  sensible [] d a = tt
  sensible (c ∷ cs) d a = (a.0, λ m. all_at (λ q. ¬ (c.place ≡ q)) (record_places cs) d.0 m refl, sensible cs d.1 a.1)

  changes : (cs : List Record) → IsSensible b size nothing cs → AllByRecursion (λ c. c.change < size) cs
  changes cs s = all_map (Admits b size nothing) (λ c. c.change < size) (λ c a. a.symbol) cs (all_admitted cs s)

  pub sensible_changes : (cs : List Record) → IsSensible b size nothing cs → std.All (λ c. c.change < size) cs
  sensible_changes cs s = at_each (λ c. c.change < size) cs (changes cs s)

module _ (C : NumericCode) (b : Book) (cs : List Record) where
  formed_fits : IsFormed C b cs → IsSound C (row_less C cs (row b)) → Fits C b cs
  formed_fits f sound =
      let admitted = all_admitted b C.size C.zero cs f.sensible in
      record {
        distinct = different b C.size C.zero cs f.sensible;
        on_slip = all_places (λ p. p < length b) cs (all_map (Admits b C.size C.zero) (λ c. c.place < length b) (λ c a. a.on_slip) cs admitted);
        symbols = changes b C.size C.zero cs f.sensible;
        doubted = f.covers;
        changed = all_map (Admits b C.size C.zero) (λ c. doubted_at c.place b ≡ false → ¬ (c.change ≡ C.zero)) (λ c a. a.changed) cs admitted;
        within = f.within;
        sound = sound;
      }

  fits_formed : Fits C b cs → IsFormed C b cs
  fits_formed f = record {
    sensible = sensible b C.size C.zero cs f.distinct (admitted cs f.on_slip f.symbols f.changed);
    covers = f.doubted;
    within = f.within;
  }
    where
      admitted : (ds : List Record) → AllByRecursion (λ p. p < length b) (record_places ds) → AllByRecursion (λ c. c.change < C.size) ds → AllByRecursion (λ c. doubted_at c.place b ≡ false → ¬ (c.change ≡ C.zero)) ds → AllByRecursion (Admits b C.size C.zero) ds
      admitted [] x y z = tt
      admitted (d ∷ ds) x y z = (record { on_slip = x.0; symbol = y.0; changed = z.0 }, admitted ds x.1 y.1 z.1)

pub not_formed : (C : NumericCode) (b : Book) (cs : List Record) → ¬ IsFormed C b cs → ¬ Fits C b cs
not_formed C b cs never fits = never (fits_formed C b cs fits)

module _ {S E : Type 0} (N : Enumeration S) (F : FieldOn S) (C : Code S E) (rows : NumericCode) (rows_are : rows ≡ numeric_code N F C) (alphabet : N.size ≡ 32) (b : Book) (cs : List Record) where
  -- the row of the mended book is sound exactly if the pattern fits
  pub fits_decided : IsFormed rows b cs → (m : Book) → m ≡ map undoubted_place (row_less rows cs (row b)) → IsHoldable m → (held : List S) → held ≡ residue F C (map N.element (row m))
      → (r : Bool) → Decides r (held ≡ C.target) → Decides r (Fits rows b cs)
  fits_decided formed m is_m holdable held is_held r d =
      let n = row_less rows cs (row b) in
      let same : row m ≡ n = ap row is_m ∙ row_sure n in
      let is-residue : held ≡ residue F C (map N.element n) = is_held ∙ ap (λ (vs : List ℕ). residue F C (map N.element vs)) same in
      let low : AllByRecursion (λ v. v < N.size) n = subst (AllByRecursion (λ v. v < N.size)) same (row_below N.size alphabet m holdable) in (
        λ q. formed_fits rows b cs formed (subst (λ (k : NumericCode). IsSound k n) (sym rows_are) (elements_sound N F C n low (sym is-residue ∙ d.0 q))),
        λ f. d.1 (is-residue ∙ sound_elements N F C n (subst (λ (k : NumericCode). IsSound k n) rows_are f.sound)),
      )
