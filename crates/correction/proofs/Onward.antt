-- Listing records, position by position.
--   Onward   records hs, with those of ps to come, are what the first ones are with those of all positions
use Rattle.std.specs.List.{AllByRecursion}
use Rattle.std.proofs.Common.{◌≡◌, ℕ, ◌+◌, ◌-◌, ◌<◌, ◌≤◌, Bool, true, false, List, [], ◌∷◌, ◌++◌, map, length, get_or, drop, Some, None, Option, sym, refl, ap, ◌∙◌, subst, append_assoc, append-nil, arith}
use Rattle.std.proofs.lemmas.List.{at_drop_more, length-append, length-drop, length-map}
use Rattle.std.proofs.lemmas.Option.{none-some}
use Rattle.algebra.specs.Rows.{positions}
use Rattle.book.specs.declared.record.Record.{Record}
use Rattle.correction.specs.Steps.Listing.{record_of, Adds, IsListable, Lists}
use Rattle.correction.specs.Patterns.{Pushes}

pub pushed_added : (new : Record) (before after : List Record) (r : Option (Unit {0})) → Pushes new before r after → Adds new before r after
pushed_added new before after None p room = let full = p.0 in absurd (omega arith)
pushed_added new before after (Some u) p room = (refl, p.1)

abbrev pub Onward : (ℕ → ℕ → Type 0) → ℕ → List ℕ → List Record → List ℕ → List Record → Type 0
Onward Change n all before ps hs =
    (Y : ℕ → ℕ) → IsListable Change Y all before → IsListable Change Y ps hs × (hs ++ map (record_of n Y) ps ≡ before ++ map (record_of n Y) all)

module _ {Change : ℕ → ℕ → Type 0} (n : ℕ) {all : List ℕ} {before : List Record} where
  pub onward_all : {hs : List Record} → Onward Change n all before [] hs → Lists Change n all before (Some tt) hs
  onward_all {hs} o Y l = (refl, sym (append-nil hs) ∙ (o Y l).1)

  -- the next position's record is added
  module _ {p : ℕ} {ps : List ℕ} {hs next : List Record} {r : Option (Unit {0})} (o : Onward Change n all before (p ∷ ps) hs)
      (added : (y : ℕ) → Change p y → Adds record { place = n - 1 - p; change = y } hs r next) where
    step : (Y : ℕ → ℕ) → IsListable Change Y all before → (r ≡ Some tt) × (next ≡ hs ++ record_of n Y p ∷ [])
    step Y l = let left = (o Y l).0 in let room = left.room in added (Y p) left.changes.0 (omega arith)

    pub onward_more : Onward Change n all before ps next
    onward_more Y l =
        let left = (o Y l).0 in
        let room = left.room in
        let is = (step Y l).1 in
        let longer : length next ≡ length hs + 1 = ap length is ∙ length-append hs (record_of n Y p ∷ []) in (
          record { changes = left.changes.1; room = omega arith },
          ap (λ xs. xs ++ map (record_of n Y) ps) is ∙ append_assoc hs (record_of n Y p ∷ []) (map (record_of n Y) ps) ∙ (o Y l).1,
        )

    -- it is never refused, so that anything can be said of a refusal
    pub never_none : r ≡ None → {after : List Record} {t : Option (Unit {0})} → Lists Change n all before t after
    never_none e Y l = absurd (none-some tt (sym e ∙ (step Y l).0))

-- one list of positions after another, from none on
pub both_listed : (Change Change' : ℕ → ℕ → Type 0) (n : ℕ) (ps qs : List ℕ) (between after : List Record) (r t : Option (Unit {0})) (Y : ℕ → ℕ)
    → Lists Change n ps [] r between → Lists Change' n qs between t after → AllByRecursion (λ p. Change p (Y p)) ps → AllByRecursion (λ p. Change' p (Y p)) qs → length ps + length qs ≤ 16
    → (r ≡ Some tt) × (t ≡ Some tt) × (after ≡ map (record_of n Y) ps ++ map (record_of n Y) qs)
both_listed Change Change' n ps qs between after r t Y first second h k room =
    let one = first Y record { changes = h; room = omega arith } in
    let many : length between ≡ length ps = ap length one.1 ∙ length-map ps (record_of n Y) in
    let two = second Y record { changes = k; room = omega arith } in
    (one.0, two.0, two.1 ∙ ap (λ hs. hs ++ map (record_of n Y) qs) one.1)

-- The marks of a row, place by place.
module _ (ms : List Bool) (i : ℕ) (below : i < length ms) where
  marked : get_or ms i false ≡ true → positions (drop i ms) ≡ (length ms - 1 - i) ∷ positions (drop (i + 1) ms)
  marked e =
      let rest = drop (i + 1) ms in
      let left : length rest ≡ length ms - 1 - i = length-drop (i + 1) ms ∙ omega arith in
      at_drop_more positions ms i false below ∙ ap (λ f. positions (f ∷ rest)) e ∙ ap (λ p. p ∷ positions rest) left

  unmarked : get_or ms i false ≡ false → positions (drop i ms) ≡ positions (drop (i + 1) ms)
  unmarked e = at_drop_more positions ms i false below ∙ ap (λ f. positions (f ∷ drop (i + 1) ms)) e

  module _ {Change : ℕ → ℕ → Type 0} {before hs : List Record} (o : Onward Change (length ms) (positions ms) before (positions (drop i ms)) hs) where
    pub passed_over : get_or ms i false ≡ false → Onward Change (length ms) (positions ms) before (positions (drop (i + 1) ms)) hs
    passed_over e = subst (λ ps. Onward Change (length ms) (positions ms) before ps hs) (unmarked e) o

    module _ (e : get_or ms i false ≡ true) {next : List Record} {r : Option (Unit {0})}
        (added : (y : ℕ) → Change (length ms - 1 - i) y → Adds record { place = i; change = y } hs r next) where
      at_place : (y : ℕ) → Change (length ms - 1 - i) y → Adds record { place = length ms - 1 - (length ms - 1 - i); change = y } hs r next
      at_place y h = let same : i ≡ length ms - 1 - (length ms - 1 - i) = omega arith in subst (λ k. Adds record { place = k; change = y } hs r next) same (added y h)

      first_left : Onward Change (length ms) (positions ms) before ((length ms - 1 - i) ∷ positions (drop (i + 1) ms)) hs
      first_left = subst (λ ps. Onward Change (length ms) (positions ms) before ps hs) (marked e) o

      pub taken_up : Onward Change (length ms) (positions ms) before (positions (drop (i + 1) ms)) next
      taken_up = onward_more (length ms) first_left at_place

      pub never_refused : r ≡ None → {after : List Record} {t : Option (Unit {0})} → Lists Change (length ms) (positions ms) before t after
      never_refused = never_none (length ms) first_left at_place
