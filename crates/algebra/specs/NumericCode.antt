-- A code in numbers alone, so that a call can carry it.
--   NumericCode    a code's sizes, the difference of two symbols, and which rows are sound
--   numeric_code   a code over a field, by the numbers of its symbols
use Rattle.std.specs.List.{list_all}
use Rattle.std.specs.Prelude.{◌≡◌, ℕ, Bool, ◌&&◌, ◌==◌, List, length, map, nat_lt}
use Rattle.algebra.specs.Code as code
use Rattle.algebra.specs.Code.{Code, residue}
use Rattle.algebra.specs.Field.{FieldOn, Enumeration}
use Rattle.algebra.specs.Rows.{hamming_distance}

pub record NumericCode : Type 0 where
  -- how many symbols there are
  pub size : ℕ
  -- how many check symbols a row has
  pub checks : ℕ
  -- how long a row may be
  pub limit : ℕ
  -- twice the errors and the doubted places together are at most this
  pub bound : ℕ
  -- the number of ZERO: as a change it changes nothing
  pub zero : ℕ
  -- one symbol less another
  pub sub : ℕ → ℕ → ℕ
  pub is_sound : List ℕ → Bool

-- are two lists one?
abbrev pub is_same_list : {S : Type 0} → ((x y : S) → Dec (x ≡ y)) → List S → List S → Bool
is_same_list dec_eq xs ys = length xs == length ys && hamming_distance dec_eq xs ys == 0

-- a row is sound if its numbers are symbols and their residue is the target
abbrev pub numeric_code : {S E : Type 0} → Enumeration S → FieldOn S → Code S E → NumericCode
numeric_code N F C = record {
  size = N.size;
  checks = code.checks C;
  limit = C.limit;
  bound = code.bound C;
  zero = N.number F.𝟘;
  sub = λ x y. N.number (F.add (N.element x) (F.neg (N.element y)));
  is_sound = λ n. list_all (λ v. nat_lt v N.size) n && is_same_list F.dec_eq (residue F C (map N.element n)) C.target;
}
