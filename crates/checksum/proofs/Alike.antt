-- A list whose entries are tested one by one against another's.
use Rattle.std.proofs.Common.{◌≡◌, ℕ, ◌<◌, Bool, true, List, length, get_or, zero-add, Decides, sym, refl, ap, ◌∙◌, arith}
use Rattle.std.proofs.lemmas.List.{get_or_default, same_lists}
use Rattle.std.proofs.lemmas.List.FromFn.{length-enumerate_from, get_or-enumerate_from}
use Rattle.std.proofs.lemmas.List.Sums.{AllPass-from_list_all, list_all-from_AllPass}
use Rattle.std.specs.List.{enumerate_from, list_all}
use Rattle.algebra.specs.Field.{FieldOn}
use Rattle.algebra.specs.Poly.{coeff}

module _ {S : Type 0} (F : FieldOn S) {E : S → S → Bool} (decides : (x y : S) (b : Bool) → b ≡ E x y → Decides b (x ≡ y)) (xs ys : List S) (long : length xs ≡ length ys) where
  abbrev test : ℕ × S → Bool
  test p = E p.1 (coeff F ys p.0)

  test_at : (k : ℕ) (d : ℕ × S) → k < length xs → test (get_or (enumerate_from 0 xs) k d) ≡ E (get_or xs k d.1) (coeff F ys k)
  test_at k d h = ap test (get_or-enumerate_from 0 xs k d h) ∙ ap (λ n. E (get_or xs k d.1) (coeff F ys n)) (zero-add k)

  pub alike_decided : (r : Bool) → r ≡ list_all test (enumerate_from 0 xs) → Decides r (xs ≡ ys)
  alike_decided r e =
      let tests = enumerate_from 0 xs in
      let many = length-enumerate_from 0 xs in
      let alike : r ≡ true → xs ≡ ys =
      λ told. same_lists xs ys long (λ k d h.
      let passed = AllPass-from_list_all test tests (sym e ∙ told) k (k, d) (omega arith) in
      (decides (get_or xs k d) (coeff F ys k) true (sym passed ∙ test_at k (k, d) h)).0 refl ∙ get_or_default ys k F.𝟘 d (omega arith)) in
      let passes : xs ≡ ys → r ≡ true =
      λ same. e ∙ list_all-from_AllPass test tests (λ k d h.
      let here : k < length xs = omega arith in
      test_at k d here ∙ (decides (get_or xs k d.1) (coeff F ys k) _ refl).1 (get_or_default xs k d.1 F.𝟘 here ∙ ap (λ zs. coeff F zs k) same)) in
      (alike, passes)
