-- The promise stands.
use Rattle.std.proofs.Common.{◌≡◌, ℕ, ◌≤◌, Bool, true, false, cond, leb, ◌⊎◌, List, length, Some, None, Ok, Err, Option, refl, ap, subst, inl, inr, arith}
use native.Mathlib.Decide.{ℕ_discrete}
use Rattle.algebra.proofs.Near.{one_more_doubt_by}
use Rattle.book.specs.Book.{Book, mark, book_after}
use Rattle.book.specs.Calls.{BookAnswer, Follows, SearchGives, plain_answer, listing_of, settled_book, done, listed, doubt, solve, settle, barred, none_near, one_near, doubting, solves, settles}
use Rattle.algebra.specs.NumericCode.{NumericCode}
use Rattle.book.specs.Codes.{IsLawful, IsNear, IsSound}
use Rattle.book.specs.Promise.{IsRefusal, IsWorkable, SolveGives, SettleGives, Gives, GivesOnly, KeepsPromise}
use Rattle.book.specs.declared.call_fault.CallFault.TheVariants.{Slip as of_slip}
use Rattle.book.specs.declared.record.Record.{Record}
use Rattle.book.specs.declared.slip_fault.SlipFault.TheVariants.{Absent}
use Rattle.book.proofs.OnlyPattern.{only_pattern}
use Rattle.book.proofs.Same.{same, within, workable}

gives : (C : NumericCode) → IsLawful C → (b : Book) (n : List ℕ) (r w : ℕ) → IsWorkable C r w b → IsNear C b n → Gives C r w b n
gives C law b n r w f x =
    let open-to = workable C r w b f (omega (arith, x.close)) in
    record {
      solved = λ a next s. same law s (solves (one_near open-to x));
      settled = λ a next s. same law s (settles (one_near open-to x));
    }

-- where no row is near, a search refuses and gives none
refused_mends : {C : NumericCode} {r w : ℕ} {b : Book} {a : BookAnswer} {found : Option (List ℕ)} → ((n : List ℕ) → ¬ IsNear C b n) → SearchGives C r w b a found → IsRefusal a × (found ≡ None)
refused_mends none (barred e) = ((_, refl), refl)
refused_mends none (none_near e _) = ((_, refl), refl)
refused_mends none (one_near e x) = absurd (none _ x)

refuses : (C : NumericCode) (b : Book) → ((n : List ℕ) → ¬ IsNear C b n) → (r w : ℕ) (a : BookAnswer) (next : Book)
    → Follows b (solve C r w) a next ⊎ Follows b (settle C r w) a next → IsRefusal a × (next ≡ b)
refuses C b none r w a next (inl (solves m)) = ((refused_mends none m).0, refl)
refuses C b none r w a next (inr (settles m)) = let why = refused_mends none m in (why.0, ap (settled_book b) why.1)

-- a doubt that is done marks its place
doubt_marks : {b : Book} {p : ℕ} {d : Book} {a : BookAnswer} → Follows b (doubt p) a d → a ≡ done → d ≡ mark p b
doubt_marks {b} {p} doubting e = by (leb (length b) p) e
  where
    by : (absent : Bool) → plain_answer of_slip (cond absent (Err (Absent p)) (Ok (mark p b))) ≡ done → book_after b (cond absent (Err (Absent p)) (Ok (mark p b))) ≡ mark p b
    by true e = let z : ◌≡◌ {A = ℕ} 0 1 = cc in absurd (omega arith)
    by false e = refl

-- a search answers with n alone, or refuses
abbrev MendsOnly : NumericCode → Book → List ℕ → BookAnswer → Option (List ℕ) → Type 0
MendsOnly C b n a found = IsRefusal a ⊎ ((a ≡ listing_of C b n) × (found ≡ Some n))

module _ (C : NumericCode) (law : IsLawful C) (b : Book) (n : List ℕ) (short : length b ≤ C.limit) (x : IsNear C b n) where
  mends_after : (p : ℕ) {r w : ℕ} {d : Book} {a : BookAnswer} {found : Option (List ℕ)} → d ≡ mark p b → SearchGives C r w d a found → MendsOnly C d n a found
  mends_after p q (barred e) = inl (_, refl)
  mends_after p q (none_near e _) = inl (_, refl)
  mends_after p {d = d} q (one_near {n = m} e y) =
      let one : m ≡ n = one_more_doubt_by ℕ_discrete (IsSound C) C.bound C.limit law.apart b p n m short x (subst (λ (c : Book). IsNear C c m) q y) in
      inr (ap (listing_of C d) one, ap (λ (v : List ℕ). Some v) one)

  solved_after : (p : ℕ) {r w : ℕ} {d : Book} → d ≡ mark p b → (a : BookAnswer) (next : Book) → Follows d (solve C r w) a next → IsRefusal a ⊎ SolveGives C d n a next
  solved_after p q a next (solves m) = elim (mends_after p q m) [ inl why ↦ inl why | inr one ↦ inr (one.0, refl) ]

  settled_after : (p : ℕ) {r w : ℕ} {d : Book} → d ≡ mark p b → (a : BookAnswer) (next : Book) → Follows d (settle C r w) a next → IsRefusal a ⊎ SettleGives C d n a next
  settled_after p {d = d} q a next (settles m) = elim (mends_after p q m) [ inl why ↦ inl why | inr one ↦ inr (one.0, ap (settled_book d) one.1) ]

one_more : (C : NumericCode) → IsLawful C → (b next : Book) (r w : ℕ) (cs : List Record) (i j : ℕ) → Follows b (solve C r w) (listed cs i j) next
    → (n : List ℕ) × IsNear C b n × SolveGives C b n (listed cs i j) next
    × ((p : ℕ) (doubted : Book) → Follows next (doubt p) done doubted → (r' w' : ℕ) → GivesOnly C r' w' doubted n)
one_more C law b next r w cs i j (solves (one_near {n = n} e x)) =
    let short = within C r w b e in (
      n,
      x,
      (refl, refl),
      λ p doubted f r' w'.
          record {
            solved = solved_after C law b n short x p (doubt_marks f refl);
            settled = settled_after C law b n short x p (doubt_marks f refl);
          },
    )

pub promise : (C : NumericCode) → IsLawful C → KeepsPromise C
promise C law = record { restores = gives C law; refuses = refuses C; one_more = one_more C law; one_pattern = λ b n below short near. only_pattern C law b below n short near }
