-- Massey's steps on the lists that the code holds.
use Rattle.std.proofs.Common.{◌≡◌, ℕ, ◌+◌, ◌-◌, ◌*◌, ◌<◌, ◌≤◌, max, List, [], ◌∷◌, ◌++◌, length, take, drop, set, sym, refl, ap, ◌∙◌, subst, ap₂, add-one, arith}
use native.Mathlib.Decide.{dec_lt}
use Rattle.std.proofs.lemmas.List.{take_at, drop_at, drop-drop}
use Rattle.algebra.specs.Field.{FieldOn}
use Rattle.algebra.specs.Poly.{coeff}
use Rattle.algebra.specs.Series.{product_term}
use Rattle.algebra.specs.Register.{State, updated_list, changed_list, next_state, register}
use Rattle.algebra.proofs.Laws.{inv_unique, mul_one}
use Rattle.algebra.proofs.Berlekamp.{invariant}
use Rattle.algebra.proofs.Updates.{length_change}

module _ {A : Type 0} (F : FieldOn A) where
  module _ (N : ℕ) (st : State A) (d : A) (z : Dec (d ≡ F.𝟘)) (f : Dec (N < 2 * st.L)) where
    turn_long : ¬ (d ≡ F.𝟘) → N < 2 * st.L → next_state F N st d z f ≡ record { conn = changed_list F st d; L = st.L; old = st.old; old_d = st.old_d; x = st.x + 1 }
    turn_long h k = by z f
      where
        by : (z : Dec (d ≡ F.𝟘)) (f : Dec (N < 2 * st.L)) → next_state F N st d z f ≡ record { conn = changed_list F st d; L = st.L; old = st.old; old_d = st.old_d; x = st.x + 1 }
        by (yes e) f = absurd (h e)
        by (no e) (yes l) = refl
        by (no e) (no l) = absurd (l k)

    turn_grows : ¬ (d ≡ F.𝟘) → ¬ (N < 2 * st.L) → next_state F N st d z f ≡ record { conn = changed_list F st d; L = N + 1 - st.L; old = st.conn; old_d = d; x = 1 }
    turn_grows h k = by z f
      where
        by : (z : Dec (d ≡ F.𝟘)) (f : Dec (N < 2 * st.L)) → next_state F N st d z f ≡ record { conn = changed_list F st d; L = N + 1 - st.L; old = st.conn; old_d = d; x = 1 }
        by (yes e) f = absurd (h e)
        by (no e) (yes l) = absurd (k l)
        by (no e) (no l) = refl

  -- the lists and numbers hold the state st; a is the answer list as it was lent
  pub record Holds (st : State A) (a conn w : List A) (len ol x : ℕ) (inverse : A) : Type 0 where
    pub len_is : len ≡ length st.conn
    pub old_len_is : ol ≡ length st.old
    pub conn_is : conn ≡ st.conn ++ drop len a
    pub old_is : take ol w ≡ st.old
    pub inverse_is : inverse ≡ F.inv st.old_d
    pub x_is : x ≡ st.x

  -- the state after n terms, in bounds
  pub record Bounds (n len ol x : ℕ) : Type 0 where
    pub some : 0 < len
    pub old_some : 0 < ol
    pub moved : 0 < x
    pub sum : len + ol + x ≡ n + 3

  module _ (s a conn w : List A) (n len ol x : ℕ) (inverse : A) where
    abbrev st : State A
    st = register F (coeff F s) n

    abbrev d : A
    d = product_term F st.conn (coeff F s) n

    abbrev next : State A
    next = register F (coeff F s) (n + 1)

    next_is : next ≡ next_state F n st d (F.dec_eq d F.𝟘) (dec_lt n (2 * st.L))
    next_is = ap (register F (coeff F s)) (add-one n)

    -- what a turn keeps
    abbrev pub Kept : Type 0
    Kept = Bounds n len ol x × Holds st a conn w len ol x inverse

    pub kept : Holds st a conn w len ol x inverse → Kept
    kept h =
        let i = (invariant F (coeff F s) n).1 in
        let z = i.size in
        let y = i.old_size in
        let q = i.sum in
        let p = i.moved in
        let e1 = h.len_is in
        let e2 = h.old_len_is in
        let e3 = h.x_is in
        (record { some = omega arith; old_some = omega arith; moved = omega arith; sum = omega arith }, h)

    module _ (h : Holds st a conn w len ol x inverse) where
      front_is : take len conn ≡ st.conn
      front_is = ap (take len) h.conn_is ∙ take_at st.conn (drop len a) len (sym h.len_is)

      back_is : drop len conn ≡ drop len a
      back_is = ap (drop len) h.conn_is ∙ drop_at st.conn (drop len a) len (sym h.len_is)

      -- r is the discrepancy
      module _ (r : A) (e : r ≡ product_term F (take len conn) (coeff F s) n) where
        is_d : r ≡ d
        is_d = e ∙ ap (λ l. product_term F l (coeff F s) n) front_is

        -- it is not ZERO, and c is the multiple of the old list that is taken off
        module _ (z : ¬ (r ≡ F.𝟘)) (c : A) (k : c ≡ F.mul r inverse) where
          changed_is : updated_list F (take len conn) c x (take ol w) ≡ changed_list F st d
          changed_is =
              let q : c ≡ F.mul d (F.inv st.old_d) = k ∙ ap₂ F.mul is_d h.inverse_is in
              ap₂ (λ p u. updated_list F p u x (take ol w)) front_is q ∙ ap₂ (λ y u. updated_list F st.conn (F.mul d (F.inv st.old_d)) y u) h.x_is h.old_is

          wrong : ¬ (d ≡ F.𝟘)
          wrong y = z (is_d ∙ y)

          size : length (changed_list F st d) ≡ max (length st.conn) (length st.old + st.x)
          size = length_change F st.conn (F.mul d (F.inv st.old_d)) st.x st.old

          pub fits : (conn' : List A) → ol + x ≤ len → conn' ≡ updated_list F (take len conn) c x (take ol w) ++ drop len conn → Holds next a conn' w len ol (x + 1) inverse
          fits conn' le out =
              let i = (invariant F (coeff F s) n).1 in
              let i1 = i.size in
              let i2 = i.old_size in
              let i3 = i.sum in
              let e1 = h.len_is in
              let e2 = h.old_len_is in
              let e3 = h.x_is in
              let long : n < 2 * st.L = omega arith in
              let l = size in
              let q : next ≡ record { conn = changed_list F st d; L = st.L; old = st.old; old_d = st.old_d; x = st.x + 1 } = next_is ∙ turn_long n st d (F.dec_eq d F.𝟘) (dec_lt n (2 * st.L)) wrong long in
              subst (λ t. Holds t a conn' w len ol (x + 1) inverse) (sym q) (record {
                len_is = omega arith;
                old_len_is = h.old_len_is;
                conn_is = out ∙ ap₂ ◌++◌ changed_is back_is;
                old_is = h.old_is;
                inverse_is = h.inverse_is;
                x_is = ap (λ k. k + 1) h.x_is;
              })

          pub grows : (conn' w' : List A) (r' : A) → r' ≡ F.inv r → ¬ (ol + x ≤ len) → conn' ≡ updated_list F (take len conn) c x (take ol w) ++ drop (ol + x) conn → take len w' ≡ take len conn
              → Holds next a conn' w' (ol + x) len 1 r'
          grows conn' w' r' e' le out saved =
              let i = (invariant F (coeff F s) n).1 in
              let i1 = i.size in
              let i2 = i.old_size in
              let i3 = i.sum in
              let e1 = h.len_is in
              let e2 = h.old_len_is in
              let e3 = h.x_is in
              let over : len < ol + x = omega arith in
              let short : ¬ (n < 2 * st.L) = λ y. omega arith in
              let l = size in
              let j : len + (ol + x - len) ≡ ol + x = omega arith in
              let rest : drop (ol + x) conn ≡ drop (ol + x) a =
              ap (λ i. drop i conn) (sym j) ∙ sym (drop-drop (ol + x - len) len conn) ∙ ap (drop (ol + x - len)) back_is ∙ drop-drop (ol + x - len) len a ∙ ap (λ i. drop i a) j in
              let q : next ≡ record { conn = changed_list F st d; L = n + 1 - st.L; old = st.conn; old_d = d; x = 1 } = next_is ∙ turn_grows n st d (F.dec_eq d F.𝟘) (dec_lt n (2 * st.L)) wrong short in
              subst (λ t. Holds t a conn' w' (ol + x) len 1 r') (sym q) (record {
                len_is = omega arith;
                old_len_is = h.len_is;
                conn_is = out ∙ ap₂ ◌++◌ changed_is rest;
                old_is = saved ∙ front_is;
                inverse_is = e' ∙ ap F.inv is_d;
                x_is = refl;
              })

  pub start : (s a w : List A) (u v y : A) → 0 < length a → 0 < length w → u ≡ F.𝟙 → v ≡ F.𝟙 → y ≡ F.𝟙 → Kept s (set a 0 u) (set a 0 u) (set w 0 v) 0 1 1 1 y
  start s [] w u v y h k e1 e2 e3 = absurd (omega arith)
  start s (a ∷ ys) [] u v y h k e1 e2 e3 = absurd (omega arith)
  start s (a ∷ ys) (w ∷ ws) u v y h k e1 e2 e3 =
      kept s (u ∷ ys) (u ∷ ys) (v ∷ ws) 0 1 1 1 y
      (record { len_is = refl; old_len_is = refl; conn_is = ap (λ t. t ∷ ys) e1; old_is = ap (λ t. t ∷ []) e2; inverse_is = e3 ∙ inv_unique F F.𝟙 F.𝟙 (mul_one F F.𝟙); x_is = refl })
