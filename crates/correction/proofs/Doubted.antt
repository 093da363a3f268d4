-- The locator of the places that are doubted, one flag after another from the last.
use Rattle.std.proofs.Common.{◌≡◌, ℕ, ◌+◌, ◌-◌, ◌<◌, Bool, true, false, List, [], ◌∷◌, ◌++◌, length, take, drop, set, sym, ap, ◌∙◌, ap₂, append_assoc, append-nil, arith}
use Rattle.std.proofs.lemmas.List.{take_at, drop_at, drop-drop, take-take, length-append, length-drop, length-take-le}
use Rattle.algebra.specs.Field.{FieldOn, pow}
use Rattle.algebra.specs.Series.{times_linear, locator}
use Rattle.algebra.specs.Rows.{count_true, positions}
use Rattle.algebra.proofs.Flags.{length_positions}
use Rattle.algebra.proofs.Locator.{length_locator}

count_append : (fs gs : List Bool) → count_true (fs ++ gs) ≡ count_true fs + count_true gs
count_append [] gs = omega arith
count_append (true ∷ fs) gs = omega (arith, count_append fs gs)
count_append (false ∷ fs) gs = count_append fs gs

module _ {A : Type 0} (F : FieldOn A) (a : A) (fs : List Bool) where
  abbrev located : List Bool → List A
  located done = locator F (pow F a) (positions done)

  -- all flags but those of `rest` are in: the front of w, of len entries, is the locator of their positions, what follows is
  -- as in e, which has room for all, and x is a to the power of the position that comes next
  pub record Doubted (rest : List Bool) (len : ℕ) (x : A) (e w : List A) : Type 0 where
    pub done : List Bool
    pub parts : rest ++ done ≡ fs
    pub is : w ≡ located done ++ drop len e
    pub size : len ≡ count_true done + 1
    pub power : x ≡ pow F a (length done)
    pub room : count_true fs < length e

  pub doubted_none : {rest : List Bool} (e : List A) {u x : A} → rest ≡ fs → count_true fs < length e → u ≡ F.𝟙 → x ≡ F.𝟙 → Doubted rest 1 x (set e 0 u) (set e 0 u)
  doubted_none [] all h eu ex = absurd (omega arith)
  doubted_none {rest} (y ∷ e) all h eu ex = record {
    done = [];
    parts = append-nil rest ∙ all;
    is = ap (λ t. t ∷ e) eu;
    size = omega arith;
    power = ex;
    room = h;
  }

module _ {A : Type 0} {F : FieldOn A} {a : A} {fs rest : List Bool} {len : ℕ} {x : A} {e w : List A} (h : Doubted F a fs rest len x e w) where
  located_size : length (located F a fs h.done) ≡ len
  located_size = omega (arith, length_locator F (pow F a) (positions h.done), length_positions h.done, h.size)

  front : take len w ≡ located F a fs h.done
  front = ap (take len) h.is ∙ take_at (located F a fs h.done) (drop len e) len located_size

  parts_more : (left : List Bool) (flag set : Bool) → rest ≡ left ++ (flag ∷ []) → flag ≡ set → left ++ (set ∷ h.done) ≡ fs
  parts_more left flag set last is =
      ap (λ f. left ++ (f ∷ h.done)) (sym is) ∙ sym (ap (λ r. r ++ h.done) last ∙ append_assoc left (flag ∷ []) h.done) ∙ h.parts

  -- a flag that is not set
  pub doubted_past : {left : List Bool} {flag : Bool} {y : A} → rest ≡ left ++ (flag ∷ []) → flag ≡ false → y ≡ F.mul a x → Doubted F a fs left len y e w
  doubted_past {left} {flag} last is ey = record {
    done = false ∷ h.done;
    parts = parts_more left flag false last is;
    is = h.is;
    size = h.size;
    power = ey ∙ ap (F.mul a) h.power;
    room = h.room;
  }

  -- one that is finds room
  pub doubted_room : (left : List Bool) (flag : Bool) → rest ≡ left ++ (flag ∷ []) → flag ≡ true → len < length w
  doubted_room left flag last is =
      let many = ap count_true (parts_more left flag true last is) in
      let split = ap length h.is ∙ length-append (located F a fs h.done) (drop len e) in
      omega (arith, h.size, h.room, count_append left (true ∷ h.done), located_size, length-drop len e)

  -- and the front, with an entry more, is multiplied
  pub doubted_more : {left : List Bool} {flag : Bool} {y : A} {new : List A} → rest ≡ left ++ (flag ∷ []) → flag ≡ true → y ≡ F.mul a x
      → new ≡ times_linear F x (take (length (take (len + 1) w) - 1) (take (len + 1) w)) → Doubted F a fs left (len + 1) y e (new ++ drop (len + 1) w)
  doubted_more {left} {flag} {new = new} last is ey out =
      let room = doubted_room left flag last is in
      let below_top : length (take (len + 1) w) - 1 ≡ len = omega (arith, length-take-le (len + 1) w (omega arith)) in
      let own : take (length (take (len + 1) w) - 1) (take (len + 1) w) ≡ located F a fs h.done =
      ap (λ n. take n (take (len + 1) w)) below_top ∙ take-take len (len + 1) w (omega arith) ∙ front in
      let past : drop (len + 1) w ≡ drop (len + 1) e =
      sym (drop-drop 1 len w) ∙ ap (drop 1) (ap (drop len) h.is ∙ drop_at (located F a fs h.done) (drop len e) len located_size) ∙ drop-drop 1 len e in
      record {
        done = true ∷ h.done;
        parts = parts_more left flag true last is;
        is = ap₂ ◌++◌ (out ∙ ap₂ (times_linear F) h.power own) past;
        size = omega (arith, h.size);
        power = ey ∙ ap (F.mul a) h.power;
        room = h.room;
      }
