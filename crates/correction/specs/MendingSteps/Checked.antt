-- What the checker asks of a list of records, but for the soundness of the row that it leads to.
--   Admits     one record can be part of a pattern
--   IsSensible   each can, and no place is named twice
--   Covers     each doubted place is named
--   IsFormed   all of it, within the bound
use Rattle.std.specs.Prelude.{◌≡◌, ℕ, ◌+◌, ◌*◌, ◌<◌, ◌≤◌, true, false, List, [], ◌∷◌, length}
use Rattle.algebra.specs.NumericCode.{NumericCode}
use Rattle.algebra.specs.Series.{Mem}
use Rattle.book.specs.Book.{Book, doubts, doubted_at}
use Rattle.book.specs.Mending.{record_places, undoubted_count}
use Rattle.book.specs.declared.record.Record.{Record}

module _ (b : Book) (size nothing : ℕ) where
  pub record Admits (c : Record) : Type 0 where
    pub on_slip : c.place < length b
    pub symbol : c.change < size
    pub changed : doubted_at c.place b ≡ false → ¬ (c.change ≡ nothing)

  abbrev pub IsSensible : List Record → Type 0
  IsSensible [] = Unit {0}
  IsSensible (c ∷ cs) = Admits c × (¬ Mem c.place (record_places cs)) × IsSensible cs

abbrev pub Covers : Book → List Record → Type 0
Covers b cs = (p : ℕ) → doubted_at p b ≡ true → Mem p (record_places cs)

pub record IsFormed (C : NumericCode) (b : Book) (cs : List Record) : Type 0 where
  pub sensible : IsSensible b C.size C.zero cs
  pub covers : Covers b cs
  pub within : 2 * undoubted_count b cs + doubts b ≤ C.bound
