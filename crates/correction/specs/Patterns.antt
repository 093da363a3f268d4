-- What a pattern's memory holds.
--   blank_record   what lies past the records
--   records_of   the records
--   IsPattern    what is true of the memory of every pattern
--   pattern_memory   the memory that holds some records
--   Pushes       records with one more, or as they were where there are sixteen
use Rattle.std.specs.Prelude.{◌≡◌, ◌-◌, ◌<◌, ◌≤◌, List, [], ◌∷◌, ◌++◌, length, take, drop, replicate, Some, None, Option}
use Rattle.correction.specs.declared.pattern.Pattern.TheInside.{Inside}
use Rattle.book.specs.declared.record.Record.{Record}

abbrev pub blank_record : Record
blank_record = record { place = 0; change = 0 }

abbrev pub records_of : Inside → List Record
records_of p = take p.len p.records

pub record IsPattern (p : Inside) : Type 0 where
  pub sixteen : length p.records ≡ 16
  pub few : p.len ≤ 16
  pub clear : drop p.len p.records ≡ replicate (16 - p.len) blank_record

abbrev pub pattern_memory : List Record → Inside
pattern_memory records = record { records = records ++ replicate (16 - length records) blank_record; len = length records }

-- one record more, where there was room for it; else none, and nothing has changed
abbrev pub Pushes : Record → List Record → Option (Unit {0}) → List Record → Type 0
Pushes new before None after = (length before ≡ 16) × (after ≡ before)
Pushes new before (Some _) after = (length before < 16) × (after ≡ before ++ new ∷ [])
