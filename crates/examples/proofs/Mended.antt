-- The examples of mending stand.
use Rattle.std.specs.List.{AllByRecursion}
use Rattle.std.proofs.Common.{◌≡◌, ℕ, ◌+◌, ◌<◌, ◌≤◌, List, [], ◌∷◌, map, length, Some, None, sym, refl, ap, ◌∙◌, subst, ap₂, arith, lit≤}
use native.Mathlib.Decide.{dec_le, dec_lt, ℕ_discrete}
use Rattle.algebra.specs.Field.{IsEmbedding, pow}
use Rattle.algebra.specs.Poly.{eval}
use Rattle.algebra.specs.Rows.{found_locator, error_positions, wrong_places, BookOf}
use Rattle.algebra.specs.Series.{Mem, here}
use Rattle.algebra.proofs.Flags.{length_positions}
use Rattle.algebra.proofs.Laws.{add_zero, mul_zero}
use Rattle.algebra.proofs.Mended.{mends}
use Rattle.algebra.proofs.Near.{one_more_doubt_by}
use Rattle.book.specs.Book.{Book, undoubted_place, mark, row}
use Rattle.book.specs.Calls.{search_fault, listing_of, solves, settles, one_near, none_near}
use Rattle.book.specs.Codes.{IsLawful, IsNear, IsSound}
use Rattle.book.proofs.Numbers.{all_below_all, rows_lawful, near_elements, in_elements, elements, elements_numbers}
use Rattle.book.proofs.Same.{within, one_near_row, same}
use Rattle.checksum.specs.Finish.{finish, finish_rows}
use Rattle.checksum.proofs.FinishLaws.{finish_lawful}
use Rattle.fields.specs.Binary.{binary_product}
use Rattle.fields.specs.Gf32.{gf32, fe_dec_eq, fe_path, gf32_numbers}
use Rattle.fields.specs.declared.gf32.Fe32.{Fe32}
use Rattle.examples.specs.Mended.{sent_row, garbled_book, unsound_book, unchecked_book, Solves, unmendable_example, ExamplesMend}

lifts : IsEmbedding gf32 gf32 (λ (x : Fe32). x)
lifts = record { sums = λ x y. refl; products = λ x y. refl; one_to_one = λ x y e. e }

lawful : IsLawful finish_rows
unfolding gf32_numbers
lawful = rows_lawful gf32_numbers gf32 gf32 (λ (x : Fe32). x) lifts finish finish_lawful finish_rows refl refl

near_garbled : IsNear finish_rows garbled_book sent_row
unfolding finish gf32 fe_dec_eq gf32_numbers binary_product ℕ_discrete
near_garbled = record { sound = refl; same_length = refl; close = lit≤ tt }

near_doubted : IsNear finish_rows (mark 3 garbled_book) sent_row
unfolding finish gf32 fe_dec_eq gf32_numbers binary_product ℕ_discrete
near_doubted = record { sound = refl; same_length = refl; close = lit≤ tt }

near_unchecked : IsNear finish_rows unchecked_book sent_row
unfolding finish gf32 fe_dec_eq gf32_numbers binary_product ℕ_discrete
near_unchecked = record { sound = refl; same_length = refl; close = lit≤ tt }

-- one more doubt would have to lead to the same row, which is then too far
far_doubted : (n : List ℕ) → ¬ IsNear finish_rows (mark 4 (mark 3 garbled_book)) n
unfolding finish ℕ_discrete
far_doubted n h =
    let one : n ≡ sent_row = one_more_doubt_by ℕ_discrete (IsSound finish_rows) finish_rows.bound finish_rows.limit lawful.apart (mark 3 garbled_book) 4 sent_row n (lit≤ tt) near_doubted h in
    let k : 5 ≤ 4 = (subst (IsNear finish_rows (mark 4 (mark 3 garbled_book))) one h).close in
    omega arith

abbrev unsound_elements : BookOf Fe32
unsound_elements = in_elements gf32_numbers unsound_book

abbrev located : List Fe32
located = found_locator gf32 gf32 (λ (x : Fe32). x) finish unsound_elements

-- the register of its syndromes has length 1 and the connection list 1, 0
located_is : located ≡ map gf32_numbers.element (1 ∷ 0 ∷ [])
unfolding finish gf32 fe_dec_eq gf32_numbers binary_product dec_lt dec_le ℕ_discrete
located_is = sym (elements_numbers gf32_numbers located)

ones : map gf32_numbers.element (1 ∷ 0 ∷ []) ≡ gf32.𝟙 ∷ gf32.𝟘 ∷ []
unfolding gf32 gf32_numbers
ones = ap₂ (λ (x y : Fe32). x ∷ y ∷ []) (fe_path _ _ refl) (fe_path _ _ refl)

-- which is ZERO nowhere
never_zero : (x : Fe32) → ¬ (eval gf32 located x ≡ gf32.𝟘)
never_zero x e =
    let value : eval gf32 (gf32.𝟙 ∷ gf32.𝟘 ∷ []) x ≡ gf32.𝟙 =
    ap (λ t. gf32.add gf32.𝟙 (gf32.mul x t)) (gf32.zero_add (gf32.mul x gf32.𝟘) ∙ mul_zero gf32 x) ∙ ap (gf32.add gf32.𝟙) (mul_zero gf32 x) ∙ add_zero gf32 gf32.𝟙 in
    gf32.one_ne_zero (sym value ∙ ap (λ p. eval gf32 p x) (sym (located_is ∙ ones)) ∙ e)

small : AllByRecursion (λ v. v < gf32_numbers.size) (row unsound_book)
unfolding gf32_numbers
small = all_below_all 32 (row unsound_book) refl

short : length unsound_elements ≤ finish.limit
unfolding finish
short = lit≤ tt

-- so there is no place for the one error that the register's length asks for
far_unsound : (n : List ℕ) → ¬ IsNear finish_rows unsound_book n
far_unsound n h =
    let found = mends gf32 gf32 (λ (x : Fe32). x) lifts finish finish_lawful unsound_elements (elements gf32_numbers n) short (near_elements gf32_numbers gf32 finish unsound_book n small h) in
    none (error_positions gf32 gf32 (λ (x : Fe32). x) finish unsound_elements (elements gf32_numbers n))
    (length_positions (wrong_places gf32.dec_eq unsound_elements (elements gf32_numbers n))) (sym (ap length located_is) ∙ found.as_many) found.root
  where
    none : (ps : List ℕ) {k : ℕ} → length ps ≡ k → 2 ≡ k + 1 → ((p : ℕ) → Mem p ps → eval gf32 located (gf32.inv (pow gf32 finish.root p)) ≡ gf32.𝟘) → ⊥
    none [] e f root = omega arith
    none (p ∷ ps) e f root = never_zero (gf32.inv (pow gf32 finish.root p)) (root p here)

module _ (b : Book) (free : search_fault finish_rows 4 72 b ≡ None) where
  found_one : (n : List ℕ) → IsNear finish_rows b n
      → Solves (record { before = b; answer = listing_of finish_rows b n; near = Some n; after_settle = map undoubted_place n })
  found_one n near = record {
    near = (near, λ m h. one_near_row finish_rows lawful b m n (within finish_rows 4 72 b free) h near);
    solved = record { gives = solves (one_near free near); nothing_else = λ a next f. same lawful f (solves (one_near free near)) };
    settled = record { gives = settles (one_near free near); nothing_else = λ a next f. same lawful f (settles (one_near free near)) };
  }

  found_none : ((n : List ℕ) → ¬ IsNear finish_rows b n) → Solves (unmendable_example b)
  found_none far = record {
    near = far;
    solved = record { gives = solves (none_near free far); nothing_else = λ a next f. same lawful f (solves (none_near free far)) };
    settled = record { gives = settles (none_near free far); nothing_else = λ a next f. same lawful f (settles (none_near free far)) };
  }

pub mended : ExamplesMend
unfolding finish gf32 gf32_numbers binary_product ℕ_discrete
mended = (
  found_one garbled_book refl sent_row near_garbled,
  (
    found_one (mark 3 garbled_book) refl sent_row near_doubted,
    (
      found_none (mark 4 (mark 3 garbled_book)) refl far_doubted,
      (
        found_none unsound_book refl far_unsound,
        (found_one unchecked_book refl sent_row near_unchecked, tt),
      ),
    ),
  ),
)
