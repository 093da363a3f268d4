-- What is written for lines, each as soon as it is read.
--   whole_lines    the lines that a newline ends
--   Answers        a text is the answers of lines, one after another
--   AnswersAll     a writer gains the answers of lines, counted from 1, and nothing else
--   WritesAnswer   a writer gains an answer; where that fails, the front of one
--   IsCutShort     a text is the answers of lines, of which the last has its front alone
--   Ends           what is written of the bytes that were read, when all is done, and when a failure comes first
--   Streams        what a stream of lines reads and writes, on success and on failure
use Rattle.std.specs.Prelude.{◌≡◌, ℕ, Bool, ◌+◌, ◌≤◌, cond, List, [], ◌∷◌, ◌++◌, length, take, Ok, Err, Option, MatchBool, OnOk, Result, ◌==◌}
use Rattle.std.specs.Io.KnownBytes.{Appends, Consumes, IsAtEnd}
use Rattle.lines.specs.Lines.{lines_of}
use Rattle.lines.specs.declared.fault.StreamError.{StreamError}
use Rattle.lines.specs.declared.fault.StreamError.TheVariants.{Input, Output}

-- lines with a byte more at the front of the first, if there is one
abbrev pub onto : ℕ → List (List ℕ) → List (List ℕ)
onto byte [] = []
onto byte (line ∷ lines) = (byte ∷ line) ∷ lines

abbrev pub whole_lines : List ℕ → List (List ℕ)
whole_lines [] = []
whole_lines (byte ∷ bytes) =
    cond (byte == 10) ([] ∷ whole_lines bytes) (onto byte (whole_lines bytes))

-- which texts may answer a line with a number: `Answer number line text`
abbrev pub Answering : Type 1
Answering = ℕ → List ℕ → List ℕ → Type 0

abbrev pub Answers : Answering → ℕ → List (List ℕ) → List ℕ → Type 0
Answers Answer number [] bytes = bytes ≡ []
Answers Answer number (line ∷ lines) bytes =
    (text : List ℕ) × (rest : List ℕ) × (bytes ≡ text ++ rest)
    × Answer number line text × Answers Answer (number + 1) lines rest

abbrev pub AnswersAll : Answering → List (List ℕ) → Option (List ℕ) → Option (List ℕ) → Type 0
AnswersAll Answer lines old new =
    (written : List ℕ) × Answers Answer 1 lines written × Appends old new written

abbrev pub WritesAnswer : {E : Type 0} → Answering → ℕ → List ℕ → Option (List ℕ) → Option (List ℕ)
    → Result (Unit {0}) E → Type 0
WritesAnswer Answer number line old new result =
    (text : List ℕ) × (n : ℕ) × Answer number line text × Appends old new (take n text)
    × OnOk result (length text ≤ n)

pub record IsCutShort (Answer : Answering) (lines : List (List ℕ)) (written : List ℕ) : Type 0 where
  pub done : List (List ℕ)
  pub line : List ℕ
  pub front : List ℕ
  pub text : List ℕ
  pub n : ℕ
  pub last : lines ≡ done ++ line ∷ []
  pub before : Answers Answer 1 done front
  pub answer : Answer (length done + 1) line text
  pub cut : written ≡ front ++ take n text

-- on success each line is answered; `full` is whether the limit was reached, and else the reader is at its end;
-- where reading fails, each line that was read with its newline is answered, and the open one is not;
-- where writing fails, each line but the last one that was read is answered, and of the last answer there is a front
abbrev pub Ends : Answering → ℕ → Option (List ℕ) → List ℕ → List ℕ → Result Bool StreamError → Type 0
Ends Answer limit rest read written (Ok full) =
    MatchBool full (length read ≡ limit) (IsAtEnd rest) × Answers Answer 1 (lines_of read) written
Ends Answer limit rest read written (Err (Input _)) = Answers Answer 1 (whole_lines read) written
Ends Answer limit rest read written (Err (Output _)) = IsCutShort Answer (lines_of read) written

-- `input` and `rest` are what the reader has to give before and after, `old` and `new` what the writer holds
abbrev pub Streams : Answering → ℕ → Option (List ℕ) → Option (List ℕ) → Option (List ℕ) → Option (List ℕ)
    → Result Bool StreamError → Type 0
Streams Answer limit input rest old new result =
    (read : List ℕ) × (written : List ℕ) × Consumes input rest read × Appends old new written
    × (length read ≤ limit) × Ends Answer limit rest read written result
