-- A row from which changes are subtracted one after another.
use Rattle.std.proofs.Common.{◌≡◌, ℕ, ◌+◌, ◌<◌, ◌≤◌, All, List, [], ◌∷◌, map, length, get_or, drop, set, sym, refl, ap, ◌∙◌, subst, arith}
use Rattle.std.proofs.lemmas.List.Elements.{All-cons, All-nil}
use Rattle.std.proofs.lemmas.List.{at_drop_more, length-map, set_past}
use Rattle.std.specs.List.{AllByRecursion}
use Rattle.book.specs.Book.{undoubted_place}
use Rattle.algebra.specs.NumericCode.{NumericCode}
use Rattle.book.specs.Mending.{row_less}
use Rattle.book.specs.declared.record.Record.{Record}
use Rattle.book.proofs.Rows.{row_sure}
use Rattle.slip.specs.View.{IsHoldable}

-- what a slice holds past its end
abbrev blank : Record
blank = record { place = 0; change = 0 }

module _ (C : NumericCode) (rs : List Record) (i : ℕ) (vs : List ℕ) (whole : List ℕ) (h : i < length rs) (inv : row_less C (drop i rs) vs ≡ whole) where
  pub subtract_more : (x : ℕ) → x ≡ C.sub (get_or vs (get_or rs i blank).place 0) (get_or rs i blank).change → row_less C (drop (i + 1) rs) (set vs (get_or rs i blank).place x) ≡ whole
  subtract_more x is = rw is (sym (at_drop_more (λ cs. row_less C cs vs) rs i blank h) ∙ inv)

  -- a change past the row's end changes nothing
  pub subtract_past : length vs ≤ (get_or rs i blank).place → row_less C (drop (i + 1) rs) vs ≡ whole
  subtract_past out =
      let x = C.sub (get_or vs (get_or rs i blank).place 0) (get_or rs i blank).change in
      ap (row_less C (drop (i + 1) rs)) (sym (set_past vs (get_or rs i blank).place x out)) ∙ subtract_more x refl

-- from what holds by recursion to the same of each place
pub at_each : {X : Type 0} (P : X → Type 0) (xs : List X) → AllByRecursion P xs → All P xs
at_each P [] h = All-nil P
at_each P (x ∷ xs) h = All-cons P x xs h.0 (at_each P xs h.1)

pub sure_holdable : (vs : List ℕ) → length vs ≤ 89 → All (λ v. v < 32) vs → IsHoldable (map undoubted_place vs)
sure_holdable vs room below =
    let long : ◌≡◌ {A = ℕ} (length (map undoubted_place vs)) (length vs) = length-map vs undoubted_place in
    record { room = omega arith; symbols = subst (λ (ws : List ℕ). All (λ v. v < 32) ws) (sym (row_sure vs)) below }
