-- What decoding by syndromes has to find.
--   IsGarbled   the syndromes are the power sums of changes at errors and erasures, few enough
--   DecodesTo   decoding finds these errors and these changes
--   Corrects    whatever was garbled within the bound is decoded
use Rattle.std.specs.List.{AllByRecursion}
use Rattle.std.specs.Prelude.{◌≡◌, ℕ, ◌+◌, ◌*◌, ◌<◌, ◌≤◌, List, ◌++◌, length}
use Rattle.algebra.specs.Field.{FieldOn}
use Rattle.algebra.specs.Poly.{eval}
use Rattle.algebra.specs.Series.{Mem, locator, IsApart}
use Rattle.algebra.specs.Decode.{error_locator, slope_at, change_at}
use Rattle.algebra.proofs.SumsAtPlaces.{sum_of_powers, AreDistinct}

module _ {A : Type 0} (F : FieldOn A) {I : Type 0} (X : I → A) where
  open F use {𝟘, inv}

  pub record DecodesTo (erased : List I) (S : ℕ → A) (d : ℕ) (errors : List I) (Y : I → A) : Type 0 where
    pub locates : error_locator F X erased S d ≡ locator F X errors
    pub as_many : length (error_locator F X erased S d) ≡ length errors + 1
    pub root : (p : I) → Mem p errors → eval F (error_locator F X erased S d) (inv (X p)) ≡ 𝟘
    pub no_other : (p : I) → IsApart F X p errors → ¬ (eval F (error_locator F X erased S d) (inv (X p)) ≡ 𝟘)
    pub sloped : (p : I) → Mem p (errors ++ erased) → ¬ (slope_at F X erased S d p ≡ 𝟘)
    pub value : (p : I) → Mem p (errors ++ erased) → change_at F X erased S d p ≡ Y p

  -- S is the power sum of values that are not ZERO at the errors and any at the erasures, and 2e + f is at most d
  pub record IsGarbled (errors erased : List I) (Y : I → A) (S : ℕ → A) (d : ℕ) : Type 0 where
    pub distinct : AreDistinct F X (errors ++ erased)
    pub changed : AllByRecursion (λ p. ¬ (Y p ≡ 𝟘)) errors
    pub sums : (j : ℕ) → j < d → S j ≡ sum_of_powers F X Y (errors ++ erased) j
    pub within : 2 * length errors + length erased ≤ d

  -- whatever was garbled within the bound is decoded
  abbrev pub Corrects : Type 0
  Corrects = ((p : I) → ¬ (X p ≡ 𝟘)) → (errors erased : List I) (Y : I → A) (S : ℕ → A) (d : ℕ) → IsGarbled errors erased Y S d → DecodesTo erased S d errors Y
