-- A connection list while a loop over its shifted part takes the old list off.
use Rattle.std.proofs.Common.{◌≡◌, ℕ, ◌+◌, ◌-◌, ◌<◌, ◌≤◌, List, [], ◌++◌, length, get_or, take, drop, set, sym, ap, ◌∙◌, ap₂, arith}
use Rattle.std.proofs.lemmas.List.{length-take-le, take-append-drop, get_or_append_left, get_or-append_right, set-append_left, set-append_right}
use borrow.Rule.Slice.PartMut.{put_mid}
use Rattle.algebra.specs.Field.{FieldOn}
use Rattle.algebra.specs.Register.{updated_list}
use Rattle.algebra.proofs.Updates.{change_none, change_more}

-- the n entries from x on are the list `part`
module _ {A : Type 0} (p part : List A) (x n i : ℕ) (room : x ≤ length p) (inside : i < length part) where
  set_part : (y : A) → put_mid x n p (set part i y) ≡ set (put_mid x n p part) (i + x) y
  set_part y =
      let e : i ≡ i + x - x = omega arith in
      let front = length-take-le x p room in
      ap (λ t. take x p ++ t) (sym (set-append_left part (drop n (drop x p)) i y inside) ∙ ap (λ j. set (part ++ drop n (drop x p)) j y) e)
      ∙ sym (set-append_right (take x p) (part ++ drop n (drop x p)) x (i + x) y front (omega arith))

  get_part : (d : A) → get_or part i d ≡ get_or (put_mid x n p part) (i + x) d
  get_part d =
      let e : i ≡ i + x - x = omega arith in
      let front = length-take-le x p room in
      sym (get_or_append_left part (drop n (drop x p)) d i inside) ∙ ap (λ j. get_or (part ++ drop n (drop x p)) j d) e
      ∙ sym (get_or-append_right (take x p) (part ++ drop n (drop x p)) x (i + x) d front (omega arith))

module _ {A : Type 0} (F : FieldOn A) (p : List A) (k : A) (x n : ℕ) where
  pub shifted_none : x ≤ length p → put_mid x n p (take n (drop x p)) ≡ updated_list F p k x []
  shifted_none h = ap (λ t. take x p ++ t) (take-append-drop n (drop x p)) ∙ take-append-drop x p ∙ sym (change_none F p k x h)

  pub shifted_more : (o part : List A) (i : ℕ) (y v r : A) → i < length part → i < length o → length o + x ≤ length p
      → put_mid x n p part ≡ updated_list F p k x (take i o) → y ≡ get_or o i y → v ≡ get_or part i v → r ≡ F.add v (F.neg (F.mul k y))
      → put_mid x n p (set part i r) ≡ updated_list F p k x (take (i + 1) o)
  shifted_more o part i y v r inside below room inv ey ev new =
      let h : x ≤ length p = omega arith in
      let read : v ≡ get_or (updated_list F p k x (take i o)) (i + x) v = ev ∙ get_part p part x n i h inside v ∙ ap (λ l. get_or l (i + x) v) inv in
      set_part p part x n i h inside r ∙ ap₂ (λ l t. set l (i + x) t) inv new ∙ change_more F p k x o i y v below room ey read
