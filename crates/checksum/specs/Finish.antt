-- The finish code: GF(32) over itself, generator x^4 + 30 x^3 + 7 x^2 + 24 x + 19 with the roots 2, 2^2, 2^3, 2^4.
use Rattle.std.specs.Prelude.{[], ◌∷◌}
use Rattle.std.proofs.Common.{lit<}
use Rattle.algebra.specs.Code.{Code, poly_one}
use Rattle.algebra.specs.NumericCode.{NumericCode, numeric_code}
use Rattle.fields.specs.declared.gf32.Fe32.{Fe32}
use Rattle.fields.specs.Gf32.{fe, gf32, gf32_numbers}

unfoldable pub finish : Code Fe32 Fe32
finish = record {
  lower = fe 19 (lit< tt) ∷ fe 24 (lit< tt) ∷ fe 7 (lit< tt) ∷ fe 30 (lit< tt) ∷ [];
  target = poly_one gf32 4;
  root = fe 2 (lit< tt);
  first = 1;
  last = 4;
  limit = 31;
}

-- the code as its rows know it
abbrev pub finish_rows : NumericCode
finish_rows = numeric_code gf32_numbers gf32 finish
