-- Values at places, each place with its locator: their power sums, and the evaluator of these.
--   sum_of_powers F X Y ps n   Σ Y(p) X(p)^n over the places p of ps
--   evaluator F X Y ps         the list that the locator times the series of these sums comes to
--   AreDistinct F X ps         the places of a list have different locators
use Rattle.std.specs.Prelude.{ℕ, List, [], ◌∷◌}
use Rattle.algebra.specs.Field.{FieldOn, pow}
use Rattle.algebra.specs.Poly.{poly_add, poly_scale}
use Rattle.algebra.specs.Series.{locator, times_linear, IsApart}

module _ {A : Type 0} (F : FieldOn A) {I : Type 0} (X : I → A) where
  open F use {𝟘, add as ◌⊕◌, mul as ◌⊗◌}

  infixl 60 ◌⊕◌
  infixl 70 ◌⊗◌
  abbrev pub sum_of_powers : (I → A) → List I → ℕ → A
  sum_of_powers Y [] n = 𝟘
  sum_of_powers Y (p ∷ ps) n = Y p ⊗ pow F (X p) n ⊕ sum_of_powers Y ps n

  -- the sum over p of Y(p) times the factors of the other places
  abbrev pub evaluator : (I → A) → List I → List A
  evaluator Y [] = []
  evaluator Y (p ∷ ps) = poly_add F (poly_scale F (Y p) (locator F X ps)) (times_linear F (X p) (evaluator Y ps))

  -- the places of a list have different locators
  abbrev pub AreDistinct : List I → Type 0
  AreDistinct [] = Unit {0}
  AreDistinct (p ∷ ps) = IsApart F X p ps × AreDistinct ps
