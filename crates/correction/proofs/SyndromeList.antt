-- What decoding finds by a list of the syndromes of a book is what it finds by the book.
use Rattle.std.proofs.Common.{◌≡◌, ℕ, Bool, List, length, ap, ◌∙◌, ap₂}
use Rattle.algebra.specs.Code.{Code, bound}
use Rattle.algebra.specs.Decode.{error_locator, errata_locator, errata_evaluator}
use Rattle.algebra.specs.Field.{FieldOn, pow}
use Rattle.algebra.specs.Poly.{coeff, tab}
use Rattle.algebra.specs.Rows.{BookOf, symbols, doubted_places, positions, syndrome, locator_of, doubted_positions, found_locator}
use Rattle.algebra.proofs.Tab.{length_tab}
use Rattle.correction.proofs.Locates.{error_locator_tab, errata_locator_tab, errata_evaluator_tab}

module _ {S E : Type 0} (s : FieldOn S) (e : FieldOn E) (up : S → E) (C : Code S E) (b : BookOf S) (row : List S) (marks : List Bool) (list : List E)
    (is_row : row ≡ symbols b) (is-marks : marks ≡ doubted_places b) (is-list : list ≡ tab (bound C) (syndrome s e up C row)) where
  -- the syndromes of the book itself
  abbrev syndromes : ℕ → E
  syndromes = syndrome s e up C (symbols b)

  is_tab : list ≡ tab (bound C) syndromes
  is_tab = is-list ∙ ap (λ r. tab (bound C) (syndrome s e up C r)) is_row

  long : length list ≡ bound C
  long = ap length is_tab ∙ length_tab (bound C) syndromes

  -- a definition of decoding at the list's coefficients, by the book's
  at : {Y : Type 0} (f : List ℕ → (ℕ → E) → ℕ → Y) → f (positions marks) (coeff e list) (length list) ≡ f (doubted_positions s e up C b) (coeff e (tab (bound C) syndromes)) (bound C)
  at f = ap₂ (λ (l : List E) (n : ℕ). f (positions marks) (coeff e l) n) is_tab long ∙ ap (λ m. f (positions m) (coeff e (tab (bound C) syndromes)) (bound C)) is-marks

  pub locator_found : error_locator e (pow e C.root) (positions marks) (coeff e list) (length list) ≡ found_locator s e up C b
  locator_found = at (error_locator e (pow e C.root)) ∙ error_locator_tab e (pow e C.root) (doubted_positions s e up C b) syndromes (bound C)

  pub evaluator_found : errata_evaluator e (pow e C.root) (positions marks) (coeff e list) (length list) ≡ errata_evaluator e (locator_of s e up C) (doubted_positions s e up C b) syndromes (bound C)
  evaluator_found = at (errata_evaluator e (pow e C.root)) ∙ errata_evaluator_tab e (pow e C.root) (doubted_positions s e up C b) syndromes (bound C)

  pub errata_found : errata_locator e (pow e C.root) (positions marks) (coeff e list) (length list) ≡ errata_locator e (locator_of s e up C) (doubted_positions s e up C b) syndromes (bound C)
  errata_found = at (errata_locator e (pow e C.root)) ∙ errata_locator_tab e (pow e C.root) (doubted_positions s e up C b) syndromes (bound C)
