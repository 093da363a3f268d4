-- Where a row is near, what is proposed is the changes from it.
use Rattle.std.specs.List.{AllByRecursion}
use Rattle.std.proofs.Common.{◌≡◌, ℕ, ◌≤◌, List, ◌++◌, map, length, Some, Option, sym, refl, ap, ◌∙◌, subst, arith}
use Rattle.std.proofs.lemmas.List.{length-append, length-map}
use Rattle.algebra.specs.Code.{Code, IsLawfulCode, bound}
use Rattle.algebra.specs.Decode.{errata_locator, errata_evaluator, root_position}
use Rattle.algebra.specs.Field.{FieldOn, IsEmbedding, Enumeration, IsCyclic, HasOrder, pow}
use Rattle.algebra.specs.Poly.{coeff, tab}
use Rattle.algebra.specs.Rows as rows
use Rattle.algebra.specs.Rows.{positions, syndrome, symbols, change_symbol, locator_of, doubted_positions, found_locator, BookOf}
use Rattle.algebra.specs.Series.{deriv}
use Rattle.algebra.proofs.Flags.{length_positions}
use Rattle.algebra.proofs.Generators.{pow_order}
use Rattle.algebra.proofs.Members.{all_map}
use Rattle.algebra.proofs.Mended.{mends}
use Rattle.algebra.proofs.Orders.{has_order}
use Rattle.algebra.proofs.Tab.{length_tab}
use Rattle.book.specs.Book.{Book, row, marks}
use Rattle.algebra.specs.NumericCode.{numeric_code}
use Rattle.book.specs.Codes.{IsNear}
use Rattle.book.specs.Mending.{changes}
use Rattle.book.proofs.Fitting.{few_changes}
use Rattle.book.proofs.Numbers.{Below, elements, in_elements, length_elements, row_elements, marks_elements, near_elements}
use Rattle.correction.proofs.SyndromeList.{locator_found, evaluator_found, errata_found}
use Rattle.correction.proofs.Listed.{root_list, change_number, Right, doubted_right, roots_right, listed_changes}
use Rattle.lists.specs.Roots.{roots}
use Rattle.correction.specs.Steps.Decoded.{located_list, TellsChange, found_positions, IsComplete, Tells}
use Rattle.correction.specs.Steps.Forney.{HasValue}
use Rattle.correction.specs.Steps.Listing.{IsOnRow, record_of}
use Rattle.correction.specs.declared.pattern.Pattern.{Pattern}

module _ {S E : Type 0} (N : Enumeration S) (s : FieldOn S) (e : FieldOn E) (up : S → E) (L : IsEmbedding s e up) (C : Code S E) (lawful : IsLawfulCode s e up C)
    (M : Enumeration E) (g : E) (size : ℕ) (cyclic : IsCyclic e M g size) (b : Book) (below : Below N (row b)) (list : List E)
    (is-list : list ≡ tab (bound C) (syndrome s e up C (elements N (row b)))) where
  abbrev b_s : BookOf S
  b_s = in_elements N b

  abbrev order : (m : ℕ) × (m ≤ size) × HasOrder e C.root m
  order = has_order e C.root size cyclic.generates.positive (pow_order e M g size cyclic C.root lawful.root_ne_zero)

  abbrev ord : ℕ
  ord = order.0

  is_row : elements N (row b) ≡ symbols b_s
  is_row = sym (row_elements N b)

  are_marks : marks b ≡ rows.doubted_places b_s
  are_marks = sym (marks_elements N b)

  located_is : located_list e up N list (marks b) C.root C.first ≡ found_locator s e up C b_s
  located_is = locator_found s e up C b_s (elements N (row b)) (marks b) list is_row are_marks is-list

  found_is : found_positions e up N list (marks b) C.root C.first ord ≡ root_list N s e up C b ord
  found_is = ap (λ p. map (root_position ord) (roots e p C.root ord)) located_is

  module _ (n : List ℕ) (short : length b ≤ C.limit) (near : IsNear (numeric_code N s C) b n) where
    abbrev Y : ℕ → ℕ
    Y = change_number N s e up C b n

    -- what decoding the book finds is told by the list of its syndromes
    told : (p : ℕ) → Right N s e up C b n p → TellsChange e up N list (marks b) C.root C.first p (Y p)
    told p right =
        let W = errata_evaluator e (locator_of s e up C) (doubted_positions s e up C b_s) (syndrome s e up C (symbols b_s)) (bound C) in
        let G = errata_locator e (locator_of s e up C) (doubted_positions s e up C b_s) (syndrome s e up C (symbols b_s)) (bound C) in
        let at-book : HasValue e up N W (deriv e G) C.root C.first p (Y p) =
        record { sloped = right.sloped; symbol = change_symbol s e up C b_s (elements N n) p; number = refl; value = sym right.value } in
        let w = evaluator_found s e up C b_s (elements N (row b)) (marks b) list is_row are_marks is-list in
        let g = errata_found s e up C b_s (elements N (row b)) (marks b) list is_row are_marks is-list in
        subst (λ V. HasValue e up N V (deriv e (errata_locator e (pow e C.root) (positions (marks b)) (coeff e list) (length list))) C.root C.first p (Y p)) (sym w)
        (subst (λ K. HasValue e up N W (deriv e K) C.root C.first p (Y p)) (sym g) at-book)

    long : length (marks b) ≡ length b
    long = length-map b (λ a. a.doubted)

    on_row : (p : ℕ) → Right N s e up C b n p → IsOnRow (length (marks b)) (TellsChange e up N list (marks b) C.root C.first) p (Y p)
    on_row p right = let h = right.on_slip in (omega (arith, long), told p right)

    listed : map (record_of (length (marks b)) Y) (positions (marks b)) ++ map (record_of (length (marks b)) Y) (found_positions e up N list (marks b) C.root C.first ord) ≡ changes (numeric_code N s C) b n
    listed =
        ap (λ k. map (record_of k Y) (positions (marks b)) ++ map (record_of k Y) (found_positions e up N list (marks b) C.root C.first ord)) long
        ∙ ap (λ qs. map (record_of (length b) Y) (positions (marks b)) ++ map (record_of (length b) Y) qs) found_is
        ∙ listed_changes N s e up L C lawful b n below short near ord order.2

    complete : IsComplete e up N list (marks b) C.root C.first ord Y
    complete =
        let qs = found_positions e up N list (marks b) C.root C.first ord in
        let few = few_changes (numeric_code N s C) b n near in
        let many = ap length (sym listed) ∙ length-append (map (record_of (length (marks b)) Y) (positions (marks b))) (map (record_of (length (marks b)) Y) qs) in
        let lp = length-map (positions (marks b)) (record_of (length (marks b)) Y) in
        let lq = length-map qs (record_of (length (marks b)) Y) in
        let small = lawful.bound_small in
        let close = near_elements N s C b n below near in
        let as_many = ap length located_is ∙ (mends s e up L C lawful b_s (elements N n) (omega (arith, length_elements N b)) close).as_many in
        let doubts = ap (λ fs. length (positions fs)) are_marks ∙ length_positions (rows.doubted_places b_s) in
        let size = ap length is-list ∙ length_tab (bound C) (syndrome s e up C (elements N (row b))) in
        record {
          order = order.2;
          doubted = all_map (Right N s e up C b n) (λ p. TellsChange e up N list (marks b) C.root C.first p (Y p)) told (positions (marks b))
              (doubted_right N s e up L C lawful b n below short near);
          errors = all_map (Right N s e up C b n) (λ p. IsOnRow (length (marks b)) (TellsChange e up N list (marks b) C.root C.first) p (Y p)) on_row qs
              (subst (AllByRecursion (Right N s e up C b n)) (sym found_is) (roots_right N s e up L C lawful b n below short near ord order.2));
          few = omega arith;
          within = omega (arith, close.close);
        }

    pub proposes : (r : Option Pattern) → Tells e up N list (marks b) C.root C.first r → r ≡ Some (changes (numeric_code N s C) b n)
    proposes r tells = tells.records ord Y complete ∙ ap Some listed
