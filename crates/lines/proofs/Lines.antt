-- The lines of what was read, as more is read.
use Rattle.std.proofs.Common.{◌≡◌, ◌≢◌, ℕ, ◌<◌, All, List, [], ◌∷◌, ◌++◌, length, sym, refl, ap, ◌∙◌, append_assoc, append-nil, arith}
use Rattle.std.proofs.lemmas.Bool.{ne_eqb}
use Rattle.std.proofs.lemmas.List.Elements.{All-head, All-tail}
use Rattle.lines.specs.Lines.{with_byte_before, lines_of}
use Rattle.lines.specs.Streams.{onto, whole_lines}

abbrev pub NoNewline : List ℕ → Type 0
NoNewline bytes = All (λ byte. byte ≢ 10) bytes

one_line : (line rest : List ℕ) → NoNewline line → lines_of (line ++ 10 ∷ rest) ≡ line ∷ lines_of rest
one_line [] rest h = refl
one_line (byte ∷ bytes) rest h =
    let here = ne_eqb byte 10 (All-head (λ b. b ≢ 10) byte bytes h) in
    simp here (ap (with_byte_before byte) (one_line bytes rest (All-tail (λ b. b ≢ 10) byte bytes h)))

one_whole : (line rest : List ℕ) → NoNewline line → whole_lines (line ++ 10 ∷ rest) ≡ line ∷ whole_lines rest
one_whole [] rest h = refl
one_whole (byte ∷ bytes) rest h =
    let here = ne_eqb byte 10 (All-head (λ b. b ≢ 10) byte bytes h) in
    simp here (ap (onto byte) (one_whole bytes rest (All-tail (λ b. b ≢ 10) byte bytes h)))

last_line : (line : List ℕ) → NoNewline line → 0 < length line → lines_of line ≡ line ∷ []
last_line [] h some = absurd (omega arith)
last_line (byte ∷ []) h some = simp (ne_eqb byte 10 (All-head (λ b. b ≢ 10) byte [] h))
last_line (byte ∷ next ∷ bytes) h some =
    let here = ne_eqb byte 10 (All-head (λ b. b ≢ 10) byte (next ∷ bytes) h) in
    let tail = last_line (next ∷ bytes) (All-tail (λ b. b ≢ 10) byte (next ∷ bytes) h) (omega arith) in
    rw here (ap (with_byte_before byte) tail)

no_whole : (line : List ℕ) → NoNewline line → whole_lines line ≡ []
no_whole [] h = refl
no_whole (byte ∷ bytes) h =
    let here = ne_eqb byte 10 (All-head (λ b. b ≢ 10) byte bytes h) in
    simp here (ap (onto byte) (no_whole bytes (All-tail (λ b. b ≢ 10) byte bytes h)))

-- what was read is these lines, each with its newline
pub record Cuts (read : List ℕ) (done : List (List ℕ)) : Type 0 where
  pub lines : (rest : List ℕ) → lines_of (read ++ rest) ≡ done ++ lines_of rest
  pub whole : (rest : List ℕ) → whole_lines (read ++ rest) ≡ done ++ whole_lines rest

pub cuts_none : Cuts [] []
cuts_none = record { lines = λ rest. refl; whole = λ rest. refl }

module _ (read : List ℕ) (done : List (List ℕ)) (cuts : Cuts read done) where
  pub cuts_more : (line bytes : List ℕ) → NoNewline line → bytes ≡ line ++ 10 ∷ [] → Cuts (read ++ bytes) (done ++ line ∷ [])
  cuts_more line bytes h e = record {
    lines = λ rest. ap lines_of (append_assoc read bytes rest) ∙ cuts.lines (bytes ++ rest)
        ∙ ap (λ (b : List ℕ). done ++ lines_of (b ++ rest)) e
        ∙ ap (λ (b : List ℕ). done ++ lines_of b) (append_assoc line (10 ∷ []) rest)
        ∙ ap (λ (ls : List (List ℕ)). done ++ ls) (one_line line rest h)
        ∙ sym (append_assoc done (line ∷ []) (lines_of rest));
    whole = λ rest. ap whole_lines (append_assoc read bytes rest) ∙ cuts.whole (bytes ++ rest)
        ∙ ap (λ (b : List ℕ). done ++ whole_lines (b ++ rest)) e
        ∙ ap (λ (b : List ℕ). done ++ whole_lines b) (append_assoc line (10 ∷ []) rest)
        ∙ ap (λ (ls : List (List ℕ)). done ++ ls) (one_whole line rest h)
        ∙ sym (append_assoc done (line ∷ []) (whole_lines rest));
  }

  pub cut_here : lines_of read ≡ done
  cut_here = ap lines_of (sym (append-nil read)) ∙ cuts.lines [] ∙ append-nil done

  pub cut_last : (line : List ℕ) → NoNewline line → 0 < length line → lines_of (read ++ line) ≡ done ++ line ∷ []
  cut_last line h some = cuts.lines line ∙ ap (λ (ls : List (List ℕ)). done ++ ls) (last_line line h some)

  pub whole_here : (bytes : List ℕ) → NoNewline bytes → whole_lines (read ++ bytes) ≡ done
  whole_here bytes h = cuts.whole bytes ∙ ap (λ (ls : List (List ℕ)). done ++ ls) (no_whole bytes h) ∙ append-nil done
