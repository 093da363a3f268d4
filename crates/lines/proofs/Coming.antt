-- A stream of lines, each answered before the next is read.
use Rattle.std.proofs.Common.{◌≡◌, Bool, true, false, eqb, MatchBool, eqb-true, eq-eqb, inl, inr, ℕ, ◌+◌, ◌<◌, ◌≤◌, List, [], ◌∷◌, ◌++◌, length, take, Some, None, Ok, Err, Option, IfSome, sym, refl, ap, subst, ◌∙◌, append_assoc, append-nil, arith, length-append}
use Rattle.std.proofs.lemmas.Bool.{both_ways}
use Rattle.std.proofs.KnownBytes.{Appends-nil, Appends-trans, Consumes-nil, Consumes-trans}
use Rattle.std.proofs.lemmas.List.{length_push, take_all}
use Rattle.std.specs.Io.KnownBytes.{Appends, Consumes, IsAtEnd}
use Rattle.std.specs.declared.io.Error.{Error}
use Rattle.lines.specs.Lines.{lines_of}
use Rattle.lines.specs.Reading.{IsOver, ReadsLine}
use Rattle.lines.specs.Streams.{AnswersAll, Answers, Streams}
use Rattle.lines.specs.declared.fault.StreamError.TheVariants.{Input, Output}
use Rattle.lines.proofs.Lines.{Cuts, NoNewline, cut_here, cut_last, cuts_more, cuts_none, whole_here}
use lib.Seq.{take-append_seam}

module _ (Answer : ℕ → List ℕ → List ℕ → Type 0) where
  answers_more : (lines : List (List ℕ)) (number : ℕ) (bytes line text : List ℕ) → Answers Answer number lines bytes → Answer (length lines + number) line text
      → Answers Answer number (lines ++ line ∷ []) (bytes ++ text)
  answers_more [] number bytes line text before is = (text, [], ap (λ b. b ++ text) before ∙ sym (append-nil text), subst (λ (n : ℕ). Answer n line text) (omega arith) is, refl)
  answers_more (first ∷ lines) number bytes line text before is =
      let on : length (first ∷ lines) + number ≡ length lines + (number + 1) = omega arith in
      (before.0, before.1 ++ text, ap (λ b. b ++ text) before.2 ∙ append_assoc before.0 before.1 text, before.3, answers_more lines (number + 1) before.1 line text before.4 (subst (λ (n : ℕ). Answer n line text) on is))

  module _ (limit : ℕ) where
    -- so many lines were read, each with its newline, and are answered
    pub record Going (input rest old new : Option (List ℕ)) (left answered : ℕ) : Type 0 where
      pub read : List ℕ
      pub done : List (List ℕ)
      pub written : List ℕ
      pub consumes : Consumes input rest read
      pub appends : Appends old new written
      pub counted : left + length read ≡ limit
      pub few : length done ≤ length read
      pub numbered : length done ≡ answered
      pub cuts : Cuts read done
      pub answers : Answers Answer 1 done written

    pub start : (input old : Option (List ℕ)) → Going input input old old limit 0
    start input old = record {
      read = [];
      done = [];
      written = [];
      consumes = Consumes-nil input;
      appends = Appends-nil old;
      counted = omega arith;
      few = omega arith;
      numbered = refl;
      cuts = cuts_none;
      answers = refl;
    }

    module _ (input rest old new : Option (List ℕ)) (left answered : ℕ) (going : Going input rest old new left answered) where
      module _ (after : Option (List ℕ)) (left' : ℕ) (bytes : List ℕ) (reads : Consumes rest after bytes) (counts : left' + length bytes ≡ left) where
        all_read : Consumes input after (going.read ++ bytes)
        all_read = Consumes-trans input rest after going.read bytes going.consumes reads

        all_counted : left' + length (going.read ++ bytes) ≡ limit
        all_counted = let l = length-append going.read bytes in omega arith

        pub input_stopped : (e : Error) → NoNewline bytes → Streams Answer limit input after old new (Err (Input e))
        input_stopped e h =
            (going.read ++ bytes, going.written, all_read, going.appends, (let l = all_counted in omega arith), subst (λ ls. Answers Answer 1 ls going.written) (sym (whole_here going.read going.done going.cuts bytes h)) going.answers)

        ended_so : (full : Bool) → eqb left' 0 ≡ full → IsOver after left' → MatchBool full (length (going.read ++ bytes) ≡ limit) (IsAtEnd after)
        ended_so true e end = let l = all_counted in let z = eqb-true left' 0 e in omega arith
        ended_so false e (inl at) = at
        ended_so false e (inr none) = absurd (both_ways (eqb left' 0) e (eq-eqb left' 0 none))

        ended : IsOver after left' → MatchBool (eqb left' 0) (length (going.read ++ bytes) ≡ limit) (IsAtEnd after)
        ended end = ended_so (eqb left' 0) refl end

        pub no_more : bytes ≡ [] → IsOver after left' → Streams Answer limit input after old new (Ok (eqb left' 0))
        no_more none end =
            let same : lines_of (going.read ++ bytes) ≡ going.done = ap (λ (b : List ℕ). lines_of (going.read ++ b)) none ∙ ap lines_of (append-nil going.read) ∙ cut_here going.read going.done going.cuts in
            (going.read ++ bytes, going.written, all_read, going.appends, (let l = all_counted in omega arith), (ended end, subst (λ ls. Answers Answer 1 ls going.written) (sym same) going.answers))

        module _ (line text : List ℕ) (n : ℕ) (then : Option (List ℕ)) (is : Answer (answered + 1) line text) (writes : Appends new then (take n text)) where
          its_number : Answer (length going.done + 1) line text
          its_number = subst (λ (m : ℕ). Answer (m + 1) line text) (sym going.numbered) is

          all_written : Appends old then (going.written ++ take n text)
          all_written = Appends-trans old new then going.written (take n text) going.appends writes

          its_answers : length text ≤ n → Answers Answer 1 (going.done ++ line ∷ []) (going.written ++ take n text)
          its_answers long =
              subst (λ t. Answers Answer 1 (going.done ++ line ∷ []) (going.written ++ t)) (sym (take_all n text long)) (answers_more going.done 1 going.written line text going.answers its_number)

          pub goes_on : NoNewline line → bytes ≡ line ++ 10 ∷ [] → length text ≤ n → Going input after old then left' (answered + 1)
          goes_on h e long =
              let l = ap length e in
              let m = length-append line (10 ∷ []) in
              let k = length-append going.read bytes in
              let p = length_push going.done line in
              record {
                read = going.read ++ bytes;
                done = going.done ++ line ∷ [];
                written = going.written ++ take n text;
                consumes = all_read;
                appends = all_written;
                counted = all_counted;
                few = omega arith;
                numbered = omega arith;
                cuts = cuts_more going.read going.done going.cuts line bytes h e;
                answers = its_answers long;
              }

          pub last_one : NoNewline line → bytes ≡ line → 0 < length line → IsOver after left' → length text ≤ n → Streams Answer limit input after old then (Ok (eqb left' 0))
          last_one h e some end long =
              let same : lines_of (going.read ++ bytes) ≡ going.done ++ line ∷ [] = ap (λ (b : List ℕ). lines_of (going.read ++ b)) e ∙ cut_last going.read going.done going.cuts line h some in
              (going.read ++ bytes, going.written ++ take n text, all_read, all_written, (let l = all_counted in omega arith), (ended end, subst (λ ls. Answers Answer 1 ls (going.written ++ take n text)) (sym same) (its_answers long)))

          pub output_stopped : (e : Error) → lines_of (going.read ++ bytes) ≡ going.done ++ line ∷ [] → Streams Answer limit input after old then (Err (Output e))
          output_stopped e same = (
            going.read ++ bytes,
            going.written ++ take n text,
            all_read,
            all_written,
            (let l = all_counted in omega arith),
            record { done = going.done; line = line; front = going.written; text = text; n = n; last = same; before = going.answers; answer = its_number; cut = refl },
          )

          pub of_newline : NoNewline line → bytes ≡ line ++ 10 ∷ [] → lines_of (going.read ++ bytes) ≡ going.done ++ line ∷ []
          of_newline h e = cut_here (going.read ++ bytes) (going.done ++ line ∷ []) (cuts_more going.read going.done going.cuts line bytes h e)

          pub of_last : NoNewline line → bytes ≡ line → 0 < length line → lines_of (going.read ++ bytes) ≡ going.done ++ line ∷ []
          of_last h e some = ap (λ (b : List ℕ). lines_of (going.read ++ b)) e ∙ cut_last going.read going.done going.cuts line h some

          pub of_read : (more : Bool) → ReadsLine after left' more line bytes → (more ≡ false → 0 < length line) → lines_of (going.read ++ bytes) ≡ going.done ++ line ∷ []
          of_read true is some = of_newline is.0 is.1
          of_read false is some = of_last is.0 is.1 (some refl)

      -- each line has a byte at least
      pub full : answered ≡ limit → Streams Answer limit input rest old new (Ok (eqb left 0))
      full e =
          let z : left ≡ 0 = omega arith in
          rw (eq-eqb left 0 z)
          (going.read, going.written, going.consumes, going.appends, omega arith, ((omega arith), subst (λ ls. Answers Answer 1 ls going.written) (sym (cut_here going.read going.done going.cuts)) going.answers))

    taken : (full : Bool) (read rest : List ℕ) → length read ≤ limit → MatchBool full (length read ≡ limit) (rest ≡ []) → take limit (read ++ rest) ≡ read
    taken false read rest few none = ap (λ b. take limit (read ++ b)) none ∙ ap (take limit) (append-nil read) ∙ take_all limit read few
    taken true read rest few e = ap (λ (n : ℕ). take n (read ++ rest)) (sym e) ∙ take-append_seam read rest

    pub all_answered : (full : Bool) (input rest old new : Option (List ℕ)) → Streams Answer limit input rest old new (Ok full)
        → IfSome input (λ bytes. AnswersAll Answer (lines_of (take limit bytes)) old new)
    all_answered most None rest old new s = tt
    all_answered most (Some bytes) None old new s = absurd s.2
    all_answered most (Some bytes) (Some rest) old new s =
        let same : take limit bytes ≡ s.0 = ap (take limit) s.2 ∙ taken most s.0 rest s.4 s.5.0 in
        (s.1, subst (λ b. Answers Answer 1 (lines_of b) s.1) (sym same) s.5.1, s.3)
