-- What is moved to a line of what is at hand.
use Rattle.std.proofs.Common.{◌≡◌, ℕ, ◌+◌, ◌<◌, ◌≤◌, Bool, true, false, cond, ◌==◌, nat_lt, List, [], ◌∷◌, ◌++◌, length, take, drop, get_or, None, Some, Option, sym, refl, ap, ◌∙◌, subst, append_assoc, arith, add-one, length-take}
use Rattle.std.proofs.Math.Seq.{take-suc}
use Rattle.std.proofs.lemmas.Bool.{eqb-false, eqb-true, le-ltb, lt-ltb, ltb-false}
use Rattle.std.proofs.lemmas.List.{drop-append-le, get_or-take, take-append-drop, take-take}
use Rattle.std.proofs.lemmas.List.Sums.{fails_before_first}
use Rattle.std.specs.List.{position, position_or_len}
use Rattle.std.specs.Option.{is_some, unwrap_or}
use Rattle.std.proofs.lemmas.List.Quantifiers.{position-Some}
use Rattle.std.specs.Io.Buffered.{reader_buffer, reader_capacity, reader_inner, reader_remaining}
use Rattle.std.specs.Io.BufRead.{DropsConsumable}
use Rattle.std.specs.Io.KnownBytes.{Consumes, prepend_known}
use Rattle.std.specs.declared.io.buffered.BufReader.{BufReader}
use Rattle.lines.specs.Reading.{TakesAhead}
use Rattle.lines.proofs.Lines.{NoNewline}

abbrev is_newline : ℕ → Bool
is_newline byte = byte == 10

module _ (bytes : List ℕ) where
  -- no newline is among the first of these bytes
  none_among : (n : ℕ) → ((k d : ℕ) → k < n → k < length bytes → is_newline (get_or bytes k d) ≡ false) → NoNewline (take n bytes)
  none_among n none k d below is =
      let l = length-take n bytes in
      eqb-false (get_or bytes k d) 10 (none k d (omega arith) (omega arith)) (sym (get_or-take n bytes k d (omega arith)) ∙ is)

  none_at_all : (some : Bool) → nat_lt (position_or_len is_newline bytes) (length bytes) ≡ some → cond some (Some (position_or_len is_newline bytes)) None ≡ None
      → (k d : ℕ) → k < length bytes → is_newline (get_or bytes k d) ≡ false
  none_at_all true e none k d below = cc
  none_at_all false e none k d below =
      let past = ltb-false (position_or_len is_newline bytes) (length bytes) e in
      fails_before_first is_newline bytes k d (omega arith)

  pub found : (newline : Option ℕ) → newline ≡ position (λ byte. byte == 10) bytes → nat_lt (unwrap_or newline (length bytes)) (length bytes) ≡ is_some newline
  found (Some at) e = let first = position-Some is_newline bytes at 10 (sym e) in lt-ltb at (length bytes) first.0
  found None e = le-ltb (length bytes) (length bytes) (omega arith)

  pub no_more : (taken : ℕ) (newline : Option ℕ) → newline ≡ position (λ byte. byte == 10) bytes
      → taken ≡ cond (is_some newline) (unwrap_or newline (length bytes) + 1) (unwrap_or newline (length bytes)) → taken ≤ length bytes
  no_more taken (Some at) e t = let first = position-Some is_newline bytes at 10 (sym e) in omega arith
  no_more taken None e t = omega arith

-- of so many bytes at hand, those through the newline are moved, or all of them
module _ (held old new : List ℕ) (most taken : ℕ) where
  pub moved : (newline : Option ℕ) → newline ≡ position (λ byte. byte == 10) (take most held)
      → taken ≡ cond (is_some newline) (unwrap_or newline (length (take most held)) + 1) (unwrap_or newline (length (take most held)))
      → new ≡ old ++ take (unwrap_or newline (length (take most held))) (take most held) → TakesAhead old new (is_some newline) (take taken held)
  moved (Some at) e t put =
      let ahead = take most held in
      let first = position-Some is_newline ahead at 10 (sym e) in
      let l = length-take most held in
      let ten = eqb-true (get_or ahead at 10) 10 first.1 in
      let same = ap (λ (n : ℕ). take n held) t ∙ sym (take-take (at + 1) most held (omega arith)) in
      let cut : take (at + 1) ahead ≡ take at ahead ++ 10 ∷ [] = rw add-one (take-suc ahead at 10 first.0 ∙ ap (λ (byte : ℕ). take at ahead ++ byte ∷ []) ten) in
      (take at ahead, none_among ahead at (λ k d below short. (position-Some is_newline ahead at d (sym e)).2 k below), same ∙ cut, put)
  moved None e t put =
      let ahead = take most held in
      let l = length-take most held in
      let same : take taken held ≡ take (length ahead) ahead = ap (λ (n : ℕ). take n held) t ∙ sym (take-take (length ahead) most held (omega arith)) in
      (subst NoNewline (sym same) (none_among ahead (length ahead) (λ k d below short. none_at_all ahead (nat_lt (position_or_len is_newline ahead) (length ahead)) refl (sym e) k d short)), put ∙ ap (λ (bytes : List ℕ). old ++ bytes) (sym same))

known_front : (none : Bool) (held : List ℕ) (inner new : Option (List ℕ)) (n : ℕ) → n ≤ length held
    → DropsConsumable (cond none None (prepend_known held inner)) new (Some (length held)) n
    → Consumes (cond none None (prepend_known held inner)) new (take n held)
known_front true held inner new n h drops = tt
known_front false held None new n h drops = tt
known_front false held (Some rest) new n h drops =
    let both : held ++ rest ≡ take n held ++ drop n (held ++ rest) =
    ap (λ (xs : List ℕ). xs ++ rest) (sym (take-append-drop n held)) ∙ append_assoc (take n held) (drop n held) rest
    ∙ ap (λ (xs : List ℕ). take n held ++ xs) (sym (drop-append-le n held rest h)) in
    subst (λ (r : Option (List ℕ)). Consumes (Some (held ++ rest)) r (take n held)) (sym (drops h)) both

-- a buffered reader loses the front of its buffer
pub loses_front : {T A : Type 0} (remaining : T → Option (List ℕ)) (old new : BufReader T A) (n : ℕ) → n ≤ length (reader_buffer old)
    → DropsConsumable (reader_remaining remaining old) (reader_remaining remaining new) (Some (length (reader_buffer old))) n
    → Consumes (reader_remaining remaining old) (reader_remaining remaining new) (take n (reader_buffer old))
loses_front remaining old new n h drops =
    known_front (reader_capacity old == 0) (reader_buffer old) (remaining (reader_inner old)) (reader_remaining remaining new) n h drops
