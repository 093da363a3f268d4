-- Forney's values, and the symbols that they are.
--   forney   the change at a locator x, by an evaluator W and a derivative D: - x W(1/x) / (D(1/x) x^first)
--   HasValue   the change at a position is a lifted symbol, whose number is y
use Rattle.std.specs.Prelude.{◌≡◌, ℕ, List}
use Rattle.algebra.specs.Field.{FieldOn, Enumeration, pow}
use Rattle.algebra.specs.Poly.{eval}

module _ {E : Type 0} (F : FieldOn E) where
  open F use {𝟘, mul as ◌⊗◌, neg as ⊖◌, inv}

  infixl 70 ◌⊗◌
  infix 80 ⊖◌
  abbrev pub forney : List E → List E → E → ℕ → E
  forney W D x first = ⊖ (x ⊗ eval F W (inv x)) ⊗ inv (eval F D (inv x)) ⊗ inv (pow F x first)

  -- the derivative is not ZERO at 1/a^p, so that the change at position p can be had
  pub record HasValue {S : Type 0} (up : S → E) (N : Enumeration S) (W D : List E) (a : E) (first p y : ℕ) : Type 0 where
    pub sloped : ¬ (eval F D (inv (pow F a p)) ≡ 𝟘)
    pub symbol : S
    pub number : N.number symbol ≡ y
    pub value : up symbol ≡ forney W D (pow F a p) first
