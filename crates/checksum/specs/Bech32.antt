-- The sheet code: GF(32) under GF(1024), generator x^6 + 29 x^5 + 22 x^4 + 20 x^3 + 21 x^2 + 29 x + 18 with the roots
-- (1 + 6ζ)^24, (1 + 6ζ)^25, (1 + 6ζ)^26.
use Rattle.std.specs.Prelude.{[], ◌∷◌}
use Rattle.std.proofs.Common.{lit<}
use Rattle.algebra.specs.Code.{Code, poly_one}
use Rattle.algebra.specs.NumericCode.{NumericCode, numeric_code}
use Rattle.fields.specs.Gf32.{fe, gf32, gf32_numbers}
use Rattle.fields.specs.declared.gf32.Fe32.{Fe32}
use Rattle.fields.specs.Gf1024.{fe1024}
use Rattle.fields.specs.declared.gf1024.Fe1024.{Fe1024}

unfoldable pub bech32 : Code Fe32 Fe1024
bech32 = record {
  lower = fe 18 (lit< tt) ∷ fe 29 (lit< tt) ∷ fe 21 (lit< tt) ∷ fe 20 (lit< tt) ∷ fe 22 (lit< tt) ∷ fe 29 (lit< tt) ∷ [];
  target = poly_one gf32 6;
  root = fe1024 (fe 1 (lit< tt)) (fe 6 (lit< tt));
  first = 24;
  last = 26;
  limit = 89;
}

-- the code as its rows know it
abbrev pub sheet_rows : NumericCode
sheet_rows = numeric_code gf32_numbers gf32 bech32
